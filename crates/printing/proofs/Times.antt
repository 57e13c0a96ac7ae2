-- The digits of a time. Assumes nothing.
use Rattle.std.proofs.Common.{◌≡◌, ℕ, ◌+◌, ◌/◌, ◌%◌, ◌^◌, ◌<◌, ◌≤◌, false, List, [], ◌∷◌, ◌++◌, decimal, refl, ◌-◌, ap, ◌∙◌, ap₂, ⊎_elim, arith}
use Rattle.std.proofs.lemmas.Bool.{cases_lt}
use Rattle.std.proofs.lemmas.Fmt.{decimal_digit, decimal_step}
use Rattle.std.specs.Fmt.{padded_integral, format_spec, char_count}
use Rattle.text.specs.Texts.{time_text}

-- what `{:02}` writes
abbrev pub two_wide : List ℕ → List ℕ
two_wide ds = padded_integral (format_spec 32 0 4 2 (2 ^ 64 - 1)) false [] ds

one-wide : (d : ℕ) → two_wide (d ∷ []) ≡ 48 ∷ (d ∷ [])
unfolding padded_integral char_count
one-wide d = refl

both-wide : (d e : ℕ) → two_wide (d ∷ (e ∷ [])) ≡ d ∷ (e ∷ [])
unfolding padded_integral char_count
both-wide d e = refl

digits-of : (n : ℕ) → n < 100 → two_wide (decimal n) ≡ (48 + n / 10) ∷ ((48 + n % 10) ∷ [])
digits-of n h =
    ⊎_elim (λ (l : n < 10).
    let t : 48 ≡ 48 + n / 10 = omega arith in
    let o : 48 + n ≡ 48 + n % 10 = omega arith in
    ap two_wide (decimal_digit n l) ∙ one-wide (48 + n) ∙ ap₂ (λ d e. d ∷ (e ∷ [])) t o)
    (λ (l : 10 ≤ n).
    ap two_wide (decimal_step n l (omega arith) ∙ ap (λ ds. ds ++ ((48 + n % 10) ∷ [])) (decimal_digit (n / 10) (omega arith))) ∙ both-wide (48 + n / 10) (48 + n % 10)) (cases_lt n 10)

pub time-digits : (t : ℕ) → two_wide (decimal (t / 60 % 100)) ++ (58 ∷ two_wide (decimal (t % 60))) ≡ time_text t
time-digits t =
    let tens : 48 + t / 60 % 100 / 10 ≡ 48 + t / 60 / 10 % 10 = omega arith in
    let ones : 48 + t / 60 % 100 % 10 ≡ 48 + t / 60 % 10 = omega arith in
    let m : 48 + t % 60 / 10 ≡ 48 + t % 60 / 10 % 10 = omega arith in
    ap₂ (λ xs ys. xs ++ (58 ∷ ys)) (digits-of (t / 60 % 100) (omega arith) ∙ ap₂ (λ d e. d ∷ (e ∷ [])) tens ones)
    (digits-of (t % 60) (omega arith) ∙ ap (λ d. d ∷ ((48 + t % 60 % 10) ∷ [])) m)
