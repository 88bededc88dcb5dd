-- Values and a break stay, however many more calls are given.
use Rattle.std.proofs.Common.{◌≡◌, ◌∙◌, ap, sym, refl, subst, arith, ℕ, zero, suc, ◌+◌, List, []}
use Rattle.campl_code.specs.Instructions.{Code}
use Rattle.campl_code.specs.Frames.{Frame, frame_at}
use Rattle.campl_code.specs.Machine.{Next, Goes, Enters, Gives, Breaks, step}
use Rattle.campl_code.specs.Runs.{Outcome, Gave, Broke, Pauses, Short, IsOver, Going, run, goes_on}
use Rattle.campl_code_bodies.specs.Commands.{Cell, run_of}
use Rattle.campl_code_bodies.specs.Kept.{Kept, Values, AtCall, Broken, kept_of, IsKept, spent_more}

abbrev IsEnd : Outcome → Type 0
IsEnd (Gave at vars values left) = Unit {0}
IsEnd (Broke reason left) = Unit {0}
IsEnd (Pauses f fs) = ⊥
IsEnd Short = ⊥

-- with so many more calls left
abbrev with_more : ℕ → Outcome → Outcome
with_more d (Gave at vars values left) = Gave at vars values (left + d)
with_more d (Broke reason left) = Broke reason (left + d)
with_more d (Pauses f fs) = Pauses f fs
with_more d Short = Short

-- what one step more leaves so
longer-step : (d : ℕ) (on : Going) → ((f : Frame) (fs : List Frame) (m : ℕ) → IsEnd (on f fs m) → on f fs (m + d) ≡ with_more d (on f fs m))
    → (next : Next) (f : Frame) (fs : List Frame) (m : ℕ) → IsEnd (goes_on next f fs on m) → goes_on next f fs on (m + d) ≡ with_more d (goes_on next f fs on m)
longer-step d on h (Goes g gs) f fs m e = h g gs m e
longer-step d on h (Enters g gs) f fs zero e = absurd e
longer-step d on h (Enters g gs) f fs (suc m) e =
    let one : suc m + d ≡ suc (m + d) = omega arith in
    ap (goes_on (Enters g gs) f fs on) one ∙ h g gs m e
longer-step d on h (Gives g vs) f fs m e = refl
longer-step d on h (Breaks b) f fs m e = refl

longer : (code : Code) (d k : ℕ) (f : Frame) (fs : List Frame) (m : ℕ) → IsEnd (run code k f fs m) → run code k f fs (m + d) ≡ with_more d (run code k f fs m)
longer code d zero f fs m e = absurd e
longer code d (suc k) f fs m e = longer-step d (run code k) (longer code d k) (step code f fs) f fs m e

abbrev pub IsFinal : Kept → Type 0
IsFinal (Values at vars values) = Unit {0}
IsFinal (AtCall f fs) = ⊥
IsFinal Broken = Unit {0}

ended : (o : Outcome) (kept : Kept) → IsOver o → IsFinal kept → kept ≡ kept_of o → IsEnd o
ended (Gave at vars values left) kept over final e = tt
ended (Broke reason left) kept over final e = tt
ended (Pauses f fs) kept over final e = subst IsFinal e final
ended Short kept over final e = absurd over

kept-more : (d : ℕ) (o : Outcome) → IsEnd o → kept_of (with_more d o) ≡ kept_of o
kept-more d (Gave at vars values left) e = refl
kept-more d (Broke reason left) e = refl
kept-more d (Pauses f fs) e = refl
kept-more d Short e = refl

over-more : (d : ℕ) (o : Outcome) → IsEnd o → IsOver (with_more d o)
over-more d (Gave at vars values left) e = tt
over-more d (Broke reason left) e = tt
over-more d (Pauses f fs) e = tt
over-more d Short e = absurd e

-- with m more calls spent it keeps the same
pub stays : (code : Code) (c : Cell) (kept : Kept) (m : ℕ) → IsFinal kept → IsKept code c kept → IsKept code (spent_more m c) kept
stays code c kept m final is =
    let end = ended (run_of code is.0 c) kept is.1 final is.2 in
    let same = longer code m is.0 (frame_at c.block c.at c.vars) [] c.spent end in
    (is.0, subst IsOver (sym same) (over-more m (run_of code is.0 c) end), is.2 ∙ sym (kept-more m (run_of code is.0 c) end) ∙ ap kept_of (sym same))
