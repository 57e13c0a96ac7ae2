use Rattle.std.proofs.Common.{rules, arith, ◌≡◌, ℕ, ◌<◌, ◌≤◌, ◌^◌, ℤ, pos, ◌-ℤ◌, ◌*ℤ◌, w32, w64, to_z, of_z, FitsSigned, mul-le-mul}
use Rattle.std.specs.Int.RustNames.{unsigned_abs}
use Rattle.std.proofs.lemmas.Int.{ints, to_z-of_z, unsigned_abs-mul}
use Rattle.margins.proofs.margin.over.Goals as goal

small_product : (n : ℕ) (v : ℤ) → n < 2 ^ 8 → unsigned_abs v ≤ 2 ^ 32 → unsigned_abs (pos n *ℤ v) ≤ 2 ^ 40
small_product n v f g = let h : unsigned_abs (pos n) ≤ 2 ^ 8 = omega arith in omega (arith, unsigned_abs-mul (pos n) v, mul-le-mul h g)

-- a product as the code computes it
abbrev product : ℕ → ℤ → ℤ
product n v = to_z w64 (of_z w64 (to_z w64 (of_z w64 (pos n)) *ℤ to_z w64 (of_z w64 v)))

product-is : (n : ℕ) (v : ℤ) → n < 2 ^ 8 → unsigned_abs v ≤ 2 ^ 32 → product n v ≡ pos n *ℤ v
product-is n v f g =
    let p = small_product n v f g in
    let a : FitsSigned w64 (pos n) = omega (arith, ints) in
    let b : FitsSigned w64 v = omega (arith, ints) in
    let c : FitsSigned w64 (pos n *ℤ v) = omega (arith, ints) in
    simp to_z-of_z

less : (n l : ℕ) (d v : ℤ) → n < 2 ^ 8 → l < 2 ^ 8 → unsigned_abs d ≤ 2 ^ 32 → unsigned_abs v ≤ 2 ^ 32
    → FitsSigned w64 (product n d -ℤ product l v) × (to_z w64 (of_z w64 (product n d -ℤ product l v)) ≡ (pos n *ℤ d) -ℤ (pos l *ℤ v))
less n l d v f g h k =
    let a = small_product n d f h in
    let b = small_product l v g k in
    let p : FitsSigned w64 ((pos n *ℤ d) -ℤ (pos l *ℤ v)) = omega (arith, ints) in
    (rw (product-is n d f h, product-is l v g k) p, rw (product-is n d f h, product-is l v g k) (to_z-of_z w64 _ p))

pub overflow_sub-result : goal.overflow_sub-result
overflow_sub-result g c =
    let v : to_z w32 (of_z w32 c.args.least.value) ≡ c.args.least.value = omega (arith, ints) in
    simp (c.from.ensures, c.from-2.ensures, c.from-3.ensures, c.from-4.ensures, v)
    (less g.row.ONE g.row.LEAST (pos c.args.apart) c.args.least.value (search rules) (search rules) (omega arith) (omega (arith, ints))).0

pub returns : goal.returns
returns g c =
    let v : to_z w32 (of_z w32 c.args.least.value) ≡ c.args.least.value = omega (arith, ints) in
    simp (c.from.ensures, c.from-2.ensures, c.from-3.ensures, c.from-4.ensures, v)
    (less g.row.ONE g.row.LEAST (pos c.args.apart) c.args.least.value (search rules) (search rules) (omega arith) (omega (arith, ints))).1
