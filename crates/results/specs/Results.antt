-- What a kind of result means, and what each must show of it. Assumes nothing.
use Rattle.std.specs.Prelude.{◌≡◌, Bool, true, ◌&&◌, ℤ, int_le}

pub record Results (R : Type 0) : Type 0 where
  -- is it a lawful result
  pub lawful : R → Bool
  -- do both mean the same
  pub same : R → R → Bool

-- Meaning the same is an equivalence.
pub record Equal {R : Type 0} (r : Results R) : Type 0 where
  pub itself : (x : R) → r.same x x ≡ true
  pub back : (x y : R) → r.same x y ≡ true → r.same y x ≡ true
  pub on : (x y z : R) → r.same x y ≡ true → r.same y z ≡ true → r.same x z ≡ true

-- Two whole numbers are the same where neither is above the other.
abbrev pub same_number : ℤ → ℤ → Bool
same_number x y = int_le x y && int_le y x

-- Two results mean the same exactly when they are the same result.
pub record Plain {R : Type 0} (r : Results R) : Type 0 where
  pub equal : (x y : R) → r.same x y ≡ true → x ≡ y
  pub alike : (x y : R) → x ≡ y → r.same x y ≡ true
