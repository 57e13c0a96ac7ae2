use Rattle.std.specs.Prelude.{◌≡◌, Bool, true, ◌&&◌, ℤ}
use Rattle.std.proofs.Common.{arith}
use Rattle.std.proofs.lemmas.Int.{ints}
use Rattle.std.proofs.lemmas.Bool.Decides.{nat_tests}
use Rattle.results.specs.Results.{same_number}

pub itself : (x : ℤ) → same_number x x ≡ true
itself x = grind (arith, ints)

pub back : (x y : ℤ) → same_number x y ≡ true → same_number y x ≡ true
back x y h = grind (arith, ints)

pub on : (x y z : ℤ) → same_number x y ≡ true → same_number y z ≡ true → same_number x z ≡ true
on x y z h k = grind (arith, ints)

-- two tests that follow from two tests
pub both : (a b c d : Bool) → (a ≡ true → c ≡ true) → (b ≡ true → d ≡ true) → (a && b) ≡ true → (c && d) ≡ true
both a b c d f g h = grind (arith, nat_tests)

pub both₂ : (a b c d e f : Bool) → (a ≡ true → c ≡ true → e ≡ true) → (b ≡ true → d ≡ true → f ≡ true) → (a && b) ≡ true → (c && d) ≡ true → (e && f) ≡ true
both₂ a b c d e f p q h k = grind (arith, nat_tests)
