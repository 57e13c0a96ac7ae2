-- What a writer does with bytes. Assumes nothing.
use Rattle.std.specs.Prelude.{◌≡◌, ℕ, ◌+◌, ◌<◌, ◌≤◌, cond, List, ◌++◌, length, take, drop, Some, None, Ok, Err, Result, ◌==◌}
use Rattle.writer.specs.declared.buffer.Writer.{Writer}

-- a buffer with bytes put at a place
abbrev pub put_at : ℕ → List ℕ → List ℕ → List ℕ
put_at at bs out = take at out ++ (bs ++ drop (at + length bs) out)

-- the buffer that a writer holds
abbrev pub buffer : {live : ℕ} → Writer live → List ℕ
buffer w = w.out.now

-- a writer is live at 1, and only counts at 0. Where the bytes fit, they are written, or only counted;
-- where they do not, no place is left, and a writer without a place leaves the buffer as it was. So does one that
-- only counts
pub record Wrote {live : ℕ} (w : Writer live) (bs : List ℕ) (v : Writer live) : Type 0 where
  pub fits : (at : ℕ) → w.at ≡ Some at → at + length bs ≤ length (buffer w) → (v.at ≡ Some (at + length bs)) × (buffer v ≡ cond (live == 0) (buffer w) (put_at at bs (buffer w)))
  pub over : (at : ℕ) → w.at ≡ Some at → at ≤ length (buffer w) → length (buffer w) < at + length bs → v.at ≡ None
  pub stays : w.at ≡ None → v.at ≡ None
  pub kept : w.at ≡ None → buffer v ≡ buffer w
  pub size : length (buffer v) ≡ length (buffer w)
  pub lender : v.out.ghost_name ≡ w.out.ghost_name
  pub dry : live ≡ 0 → buffer v ≡ buffer w

-- a writer at the front of a buffer
abbrev pub Fresh : {live : ℕ} → Writer live → Type 0
Fresh w = w.at ≡ Some 0

-- a text written at the front of a buffer that has room for it, the bytes after it as they were; or
-- refused, and nothing written
abbrev pub Written : {E : Type 0} → List ℕ → List ℕ → Result ℕ E → List ℕ → Type 0
Written text before (Ok n) after = (n ≡ length text) × (length text ≤ length before) × (after ≡ text ++ drop (length text) before)
Written text before (Err e) after = (length before < length text) × (after ≡ before)
