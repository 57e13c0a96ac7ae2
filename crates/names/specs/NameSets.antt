-- Names: the numbers 0 to 31, and sets of them, one bit each. Assumes nothing.
use Rattle.std.specs.Prelude.{ℕ, zero, suc, ◌+◌, ◌-◌, ◌/◌, ◌%◌, ◌^◌, min, Bool, true, false, cond, not, ◌&&◌, Some, None, Option, ◌==◌, nat_le, nat_lt}
use Rattle.names.specs.declared.NameSet.{NameSet}
use Rattle.kinds.specs.Meaning.{Meaning}

-- the order is that of all numbers of 32 bits
abbrev pub name_rank : ℕ → ℕ
name_rank n = min n 4294967295

abbrev pub is_name : ℕ → Bool
is_name n = nat_lt n 32

abbrev pub has : NameSet → ℕ → Bool
has s n = is_name n && s.bits / 2 ^ n % 2 == 1

-- just one of two
abbrev pub differ : Bool → Bool → Bool
differ true b = not b
differ false b = b

-- just one of w and w - 1 is in the set
abbrev pub turns : NameSet → ℕ → Bool
turns s w = differ (has s w) (has s (w - 1))

-- the first of the n numbers from k on that passes the test
abbrev pub first_from : (ℕ → Bool) → ℕ → ℕ → Option ℕ
first_from test k zero = None
first_from test k (suc n) = cond (test k) (Some k) (first_from test (k + 1) n)

abbrev pub names : Meaning ℕ NameSet
names = record {
  rank = name_rank;
  size = 4294967296;
  value = is_name;
  range = λ a z. is_name a && (is_name z && nat_le a z);
  fits = λ s a z. nat_lt 0 s.bits;
  holds = has;
  stop = λ s v. first_from (turns s) (v + 1) (31 - v);
}
