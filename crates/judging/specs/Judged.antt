-- What a set of columns and nevers has and gives, and when it is what an encounter meets. Assumes nothing.
use Rattle.std.specs.Prelude.{◌≡◌, ℕ, ◌<◌, Bool, cond, not, ◌&&◌, ◌||◌, List, [], length, take, Some, None, Option, ◌==◌, slice_index, slice_index_or}
use Rattle.std.specs.Int.{bit_at, trailing_zeros, w32}
use Rattle.std.specs.Int.Bits.{bit_and}
use Rattle.std.specs.List.{slice_get}
use Rattle.kinds.specs.Meaning.{Meaning}
use Rattle.kinds.specs.declared.Kind.{Ghosts}
use Rattle.results.specs.Results.{Results}
use Rattle.tables.specs.Contents.{Encounter}
use Rattle.tables.specs.Outcomes.{Outcome, barred, judged, clash_or_answer, is_barred, is_gap, is_clash, alike}
use Rattle.tables.specs.Storage.{column_of}
use Rattle.lists.specs.Held.{seen}
use Rattle.lists.specs.declared.view.View.{View}
use Rattle.sets.specs.Sets.{bit, HasMet, MetBy}
use Rattle.sets.specs.declared.Met.{Met}
use Rattle.judging.specs.declared.judge.Judge.{Judge}

-- is number k in the set
abbrev pub has : ℕ → ℕ → Bool
has s k = bit_at s k == 1

-- the lowest number in the set, if there is one
abbrev pub lowest_in : ℕ → Option ℕ
lowest_in s = cond (s == 0) None (Some (trailing_zeros w32 s))

-- the columns of a set, and whether it has a never
abbrev pub columns_of : ℕ → ℕ
columns_of s = bit_and s 65535

abbrev pub has_never : ℕ → Bool
has_never s = not (bit_and s 16711680 == 0)

-- bit k of number j of the table says that results j and k are unequal
abbrev pub UnlikeTable : {R : Type 0} → Results R → List R → List ℕ → Type 0
UnlikeTable r xs t = (j k : ℕ) (d : _) → j < length xs → k < length xs → bit_at (slice_index t j) k ≡ bit (not (r.same (slice_index_or xs j d) (slice_index_or xs k d)))

-- what a set of columns s gives, whose lowest has a result or else there is none: t says which results are unequal to it, and d is the default
abbrev pub lowest_outcome : {R : Type 0} → Results R → Option R → List ℕ → ℕ → Option R → Outcome R
lowest_outcome r d t s None = judged r d []
lowest_outcome r d t s (Some x) = clash_or_answer r (trailing_zeros w32 s, x) (lowest_in (bit_and s (slice_index t (trailing_zeros w32 s))))

module _ {K R V C : Type 0} {k : Ghosts K V C} where
  -- the results of the columns in use
  abbrev pub results_of : Judge K R V C k → List R
  results_of j = take j.view.now.counts.columns j.view.now.results.now

  module _ (r : Results R) (j : Judge K R V C k) where
    -- the table of the judge says which of them are unequal
    abbrev pub Unlike : Type 0
    Unlike = UnlikeTable r (results_of j) j.unlike

    -- what a set of columns gives, and what a set of columns and nevers does
    abbrev pub columns_outcome : ℕ → Outcome R
    columns_outcome s = lowest_outcome r (seen j.view.now).default j.unlike s (slice_get (results_of j) (trailing_zeros w32 s))

    abbrev pub set_outcome : ℕ → Outcome R
    set_outcome s = cond (has_never s) barred (columns_outcome (columns_of s))

    -- what is sought, told from the sets
    abbrev pub open_by : Met → Bool
    open_by s = not (is_barred r (set_outcome s.here))

    abbrev pub gap_by : Met → Bool
    gap_by s = is_gap r (set_outcome s.here)

    abbrev pub clash_by : Met → Bool
    clash_by s = is_clash r (set_outcome s.here)

    abbrev pub asymmetry_by : Met → Bool
    asymmetry_by s = not (s.here == s.exchanged) && not (alike r (set_outcome s.here) (set_outcome s.exchanged))

    abbrev pub fault_by : Met → Bool
    fault_by s = gap_by s || (clash_by s || asymmetry_by s)

  module _ (m : Meaning V C) (v : View K R V C k) where
    -- s has just the columns and nevers in use that the encounter meets
    abbrev pub Meets : ℕ → Encounter V → Type 0
    Meets s e = HasMet m v.counts (seen v).rows (λ j. column_of v.entries.now v.counts.rows j) s e

    -- the same as it stands and with the flights exchanged
    abbrev pub MeetsBoth : Met → Encounter V → Type 0
    MeetsBoth s e = MetBy m v.counts (seen v).rows (λ j. column_of v.entries.now v.counts.rows j) (seen v) s e
