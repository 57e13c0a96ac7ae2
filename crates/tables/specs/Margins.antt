-- The margins of two flights over their minima: a minimum is kept where its margin is 0 or more. Assumes nothing.
use Rattle.std.specs.Prelude.{◌≡◌, Bool, cond, ◌||◌, ◌⊎◌, ℤ, pos, negsuc, ◌+ℤ◌, ◌-ℤ◌, ◌*ℤ◌, ◌≤ℤ◌, ◌<ℤ◌, Decides, int_le, int_lt, unsigned_abs}
use Rattle.std.specs.Int.{int_min}
use Rattle.results.specs.declared.period.Period.{Period}

-- differences are absolute
abbrev pub difference : ℤ → ℤ → ℤ
difference x y = pos (unsigned_abs (x -ℤ y))

-- levels in hundreds of feet, the minimum in feet
abbrev pub vertical_margin : ℤ → ℤ → ℤ → ℤ
vertical_margin a b least = (pos 100 *ℤ difference a b) -ℤ least

-- positions in tenths of a nautical mile, the minimum in miles
abbrev pub lateral_margin : ℤ → ℤ → ℤ → ℤ
lateral_margin a b least = difference a b -ℤ (pos 10 *ℤ least)

-- same direction: times in seconds, the minimum in minutes
abbrev pub same_margin : ℤ → ℤ → ℤ → ℤ
same_margin a b least = difference a b -ℤ (pos 60 *ℤ least)

-- so many minutes after a time in seconds
abbrev pub minutes_after : ℤ → ℤ → ℤ
minutes_after t n = t +ℤ (pos 60 *ℤ n)

-- the margin at t of a period from s to e: before it, after it, or inside
abbrev pub margin_at : ℤ → ℤ → ℤ → ℤ
margin_at s e t = cond (int_lt t s) ((s -ℤ t) -ℤ pos 1) (cond (int_lt e t) ((t -ℤ e) -ℤ pos 1) (negsuc 0 -ℤ int_min (t -ℤ s) (e -ℤ t)))

-- opposite directions: the period of minutes about the passing time
abbrev pub opposite_margin : ℤ → Period → ℤ → ℤ
opposite_margin passing n t = margin_at (minutes_after passing n.from) (minutes_after passing n.to) t

abbrev pub kept : ℤ → Bool
kept margin = int_le (pos 0) margin

abbrev pub separated : ℤ → ℤ → ℤ → Bool
separated vertical lateral longitudinal = kept vertical || (kept lateral || kept longitudinal)

pub record MarginsMean : Type 0 where
  -- the flights exchanged have the same margins
  pub exchanged : (a b : ℤ) → difference a b ≡ difference b a
  -- outside of a period its minimum is kept, and inside it is not
  pub outside : (s e t : ℤ) → Decides (kept (margin_at s e t)) ((t <ℤ s) ⊎ (e <ℤ t))
  -- one kept minimum separates
  pub one : (v l g : ℤ) → Decides (separated v l g) ((pos 0 ≤ℤ v) ⊎ ((pos 0 ≤ℤ l) ⊎ (pos 0 ≤ℤ g)))
