-- The worked sheets: what the definitions give for them. Assumes nothing.
use Rattle.std.specs.Prelude.{◌≡◌, ℕ, ◌+◌, ◌*◌, ◌^◌, true, false, not, List, [], ◌∷◌, ◌++◌, map, take, replicate, ℤ, pos, negsuc, Some, None, Ok, Err, Option, Result, slice_index_or}
use Rattle.std.specs.List.{range_with_len}
use Rattle.joined.specs.declared.Either.TheVariants.{Left, Right}
use Rattle.house.specs.House.{Value, Cell, house}
use Rattle.faults.specs.declared.LookupFault.TheVariants.{OutOfRange}
use Rattle.faults.specs.declared.SheetFault.{SheetFault}
use Rattle.faults.specs.declared.SheetFault.TheVariants.{Clash, Lookup}
use Rattle.results.specs.Figures.{figures}
use Rattle.results.specs.declared.figure.Figure.{Figure}
use Rattle.items.specs.declared.Mode.TheVariants.{Both, Either}
use Rattle.items.specs.declared.Scope.TheVariants.{Flight}
use Rattle.items.specs.declared.Side.TheVariants.{OfA, OfB}
use Rattle.tables.specs.Words.{all_of}
use Rattle.tables.specs.Outcomes.{test}
use Rattle.tables.specs.Starts.{count, starts}
use Rattle.tables.specs.Issues.{Issue, too_many, shown_gap, shown_clash, shown_asymmetry, accepted, answered, issue}
use Rattle.tables.specs.Lookups.{told, look_up}
use Rattle.tables.specs.Calls.{Edit, draft, issued, first_no, asked, made}
use Rattle.tables.specs.Acceptance.{acceptable}
use Rattle.tables.specs.Storage.{Lists, opened_on, kept_after}
use Rattle.tables.specs.Margins.{vertical_margin, lateral_margin, same_margin, opposite_margin, separated}
use Rattle.examples.specs.Writing.{Page, figure, level, name, minute, any, name1, window, filled, flights, lent, fault_number, number}
use Rattle.examples.specs.Sheets.{vertical, vertical_sheet, same_direction, many, no_quantities, never_for_a, level_of_a, two_rows, both_or_both, always_met, never_flown, full}
use Rattle.examples.specs.Runs.{vertical_calls, calls_after, wrong_edits, edits, blank, wrong_pages}

-- what issue finds for a sheet, and what look-up tells of the vertical sheet
abbrev found : Page → Issue Value
found page = issue house figures page lent

abbrev looked : List Value → List Value → Result Figure SheetFault
looked a b = told (look_up house figures vertical_sheet (flights a b))

-- the numbers with which edits of a sheet are refused
abbrev refusals : Page → List (Edit Value Cell Figure) → List (Option ℕ)
refusals page ks = map (λ k. fault_number (first_no (asked house figures k page))) ks

-- the four lists after the calls that make the vertical sheet
abbrev left : Lists Value Cell Figure
left = (kept_after house figures (opened_on blank) vertical_calls).lists

-- the margin at t with the passing time 10:00 and the period from 15 minutes before it to 15 after
abbrev margin : ℕ → ℤ
margin t = opposite_margin (pos 36000) (record { from = negsuc 14; to = pos 15 }) (pos t)

-- the set of one name
abbrev only : ℕ → Cell
only n = Right (Left (record { bits = 2 ^ n }))

pub record Worked : Type 0 where
  -- the vertical sheet
  pub vertical_is_issued : found vertical_sheet ≡ accepted 36
  pub low_flights_get1000 : looked (level 500 ∷ name 0 ∷ []) (level 280 ∷ name 1 ∷ []) ≡ Ok (figure 1000)
  pub high_and_supersonic_get4000 : looked (level 451 ∷ name 0 ∷ []) (level 451 ∷ name 1 ∷ []) ≡ Ok (figure 4000)
  pub others_get2000 : looked (level 450 ∷ name 1 ∷ []) (level 451 ∷ name 1 ∷ []) ≡ Ok (figure 2000)
  pub lowest_quantity_is_named : looked (level 0 ∷ name 2 ∷ []) (level 661 ∷ name 2 ∷ []) ≡ Err (Lookup (OutOfRange OfB 0))
  pub flight_a_is_named_first : looked (level 0 ∷ name 2 ∷ []) (level 0 ∷ name 2 ∷ []) ≡ Err (Lookup (OutOfRange OfA 1))
  pub gap_without_default : found (vertical None) ≡ shown_gap (flights (level 281 ∷ name 0 ∷ []) (level 281 ∷ name 0 ∷ []))
  pub gap_is_refusal16 : number (answered (found (vertical None))) ≡ Some 16
  -- the same-direction sheet
  pub same_direction_clashes : found same_direction ≡ shown_clash (record { a = filled (level 0 ∷ level 0 ∷ name 1 ∷ []); b = filled (level 0 ∷ level 0 ∷ name 1 ∷ []); pair = filled (name 1 ∷ name 1 ∷ []) }) 0 1
  pub clash_tells_its_columns : answered (found same_direction) ≡ Err (Clash 0 1)
  pub clash_is_refusal17 : number (answered (found same_direction)) ≡ Some 17
  pub same_direction_has16 : count house same_direction ≡ 16
  -- the greatest count, and one above it
  pub ten_quantities_fit : count house (many 10) ≡ 1048576
  pub eleven_are_too_many : found (many 11) ≡ too_many
  pub too_many_is_refusal14 : number (answered (found (many 11))) ≡ Some 14
  -- no quantities
  pub default_alone_is_issued : found (no_quantities (Some (figure 5))) ≡ accepted 1
  pub nothing_is_a_gap : found (no_quantities None) ≡ shown_gap lent
  -- a never for A alone, and results by A's level alone
  pub never_for_a_is_asymmetric : found never_for_a ≡ shown_asymmetry (flights (name 0 ∷ []) (name 1 ∷ []))
  pub unequal_results_are_asymmetric : found level_of_a ≡ shown_asymmetry (flights (level 0 ∷ []) (level 281 ∷ []))
  pub asymmetry_is_refusal18 : number (answered (found never_for_a)) ≡ Some 18
  -- all barred, and lists that are too short
  pub all_barred_is_refusal15 : number (answered (found never_flown)) ≡ Some 15
  pub short_lists_are_refusal13 : number (answered (issue house figures vertical_sheet (record { a = []; b = []; pair = [] }))) ≡ Some 13
  -- look-up on sheets that are not issued
  pub out_of_range_is_refusal19 : number (looked (level 661 ∷ name 0 ∷ []) (level 0 ∷ name 0 ∷ [])) ≡ Some 19
  pub barred_is_refusal20 : number (told (look_up house figures never_for_a (flights (name 1 ∷ []) (name 0 ∷ [])))) ≡ Some 20
  pub gap_is_refusal21 : number (told (look_up house figures (no_quantities None) lent)) ≡ Some 21
  pub clash_is_refusal22 : number (told (look_up house figures (always_met (7 ∷ 8 ∷ [])) lent)) ≡ Some 22
  -- calls
  pub calls_make_the_vertical_sheet : made house figures vertical_calls ≡ record { status = issued; contents = vertical_sheet }
  pub refused_calls_change_nothing : made house figures (vertical_calls ++ calls_after) ≡ record { status = draft; contents = vertical_sheet }
  pub wrong_edits_are_refused : refusals vertical_sheet wrong_edits ≡ Some 3 ∷ Some 5 ∷ Some 6 ∷ Some 9 ∷ Some 9 ∷ Some 10 ∷ Some 10 ∷ Some 10 ∷ Some 11 ∷ None ∷ Some 12 ∷ []
  pub full_sheets_take_no_more : refusals full edits ≡ Some 2 ∷ Some 4 ∷ Some 7 ∷ Some 8 ∷ []
  -- what the calls leave in the four lists: row 3 of column 3, and the default last
  pub cell_is_kept_by_row : slice_index_or left.entries (24 * 3 + 3) any ≡ name1
  pub results_are_kept_in_order : take 4 left.results ≡ figure 1000 ∷ figure 1000 ∷ figure 4000 ∷ figure 4000 ∷ []
  pub default_is_kept_last : slice_index_or left.results 16 (figure 0) ≡ figure 2000
  -- contents that no edits make
  pub full_is_acceptable : acceptable house figures full ≡ true
  pub wrong_pages_are_not : map (acceptable house figures) wrong_pages ≡ replicate 8 false
  -- the window from 06:00 to 05:59
  pub whole_day_always_holds : all_of (λ t. house.holds (window 360 359) (minute t)) (range_with_len 0 1440) ≡ true
  pub whole_day_still_stops : house.stop (window 360 359) (minute 0) ≡ Some (minute 360)
  pub whole_day_has_two_starts : starts house (window 360 359 ∷ []) (record { scope = Flight; least = minute 0; greatest = minute 1439 }) ≡ minute 0 ∷ minute 360 ∷ []
  -- margins: 2,000 feet between levels 290 and 310, 9 nautical miles 95 tenths apart, 15 minutes just not kept
  pub vertical_just_kept : vertical_margin (pos 290) (pos 310) (pos 2000) ≡ pos 0
  pub lateral_kept : lateral_margin (negsuc 44) (pos 50) (pos 9) ≡ pos 5
  pub same_direction_lost : same_margin (pos 36000) (pos 35101) (pos 15) ≡ negsuc 0
  pub one_kept_separates : separated (negsuc 0) (pos 0) (negsuc 0) ≡ true
  pub none_kept_does_not : separated (negsuc 0) (negsuc 0) (negsuc 0) ≡ false
  -- the margin of a period
  pub margin_before : margin 35099 ≡ pos 0
  pub margin_at_the_start : margin 35100 ≡ negsuc 0
  pub margin_at_passing : margin 36000 ≡ negsuc 900
  pub margin_at_the_end : margin 36900 ≡ negsuc 0
  pub margin_after : margin 36901 ≡ pos 0
  -- Two rows on one quantity are no independent yes-or-no's: 0 to 4 and 5 to 9 are never both met, and never both unmet.
  pub two_rows_neither_clash_nor_gap : found two_rows ≡ accepted 2
  -- Both 0 is not "not both 1": with A 0 and B 1 neither column is met.
  pub both_zero_is_not_not_both_one : found both_or_both ≡ shown_gap (flights (name 0 ∷ []) (name 1 ∷ []))
  pub both_zero_fails : test house Both (only 0) 0 (flights (name 0 ∷ []) (name 1 ∷ [])) ≡ false
  pub not_both_one_holds : not (test house Both (only 1) 0 (flights (name 0 ∷ []) (name 1 ∷ []))) ≡ true
  pub either_one_holds : test house Either (only 1) 0 (flights (name 0 ∷ []) (name 1 ∷ [])) ≡ true
  -- Two columns met with equal results are no clash, and a clash passes over them.
  pub equal_results_are_no_clash : found (always_met (7 ∷ 7 ∷ [])) ≡ accepted 1
  pub clash_passes_over_equal_results : found (always_met (7 ∷ 7 ∷ 8 ∷ [])) ≡ shown_clash lent 0 2
