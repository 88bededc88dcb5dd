-- At a command whose expressions make one value after another a run ends after them, with their values.
use Rattle.std.proofs.Common.{◌≡◌, ◌∙◌, ap, refl, sym, subst, arith, ℕ, zero, suc, ◌+◌, Bool, true, false, if◌then◌else◌, List, [], ◌∷◌, drop, take, map, reverse, Option, Some, None, option_map, slice_get}
use Rattle.campl_value.specs.Tree.{Tree}
use Rattle.campl_code.specs.Instructions.{Instr, Block, Code, blocks}
use Rattle.campl_code.specs.Instructions as i
use Rattle.campl_code.specs.Frames.{Frame, frame_at}
use Rattle.campl_code.specs.Machine.{Goes, Gives, act, code_at, does, fetch, is_command, popped}
use Rattle.campl_code.specs.Runs.{Gave, IsOver, goes_on, run}
use Rattle.campl_code_bodies.specs.Kept.{Values, kept_of}
use Rattle.campl_instructions.specs.View.{view_instr}
use Rattle.campl_instructions.specs.declared.instr.Instr as r
use Rattle.campl_operands.specs.Effects.{After, Leaves, Stops, made}
use Rattle.campl_eval.specs.Flow.{goes}
use Rattle.campl_eval.proofs.Making.{goes-built, goes-operated, goes-pushed, goes-two}
use Rattle.campl_kept.specs.Keeps.{Keeps}
use Rattle.campl_kept.specs.Straight.{all_made, code_in, is_straight, left, reach}

pub map-drop : (n : ℕ) (code : List r.Instr) → map view_instr (drop n code) ≡ drop n (map view_instr code)
map-drop zero code = refl
map-drop (suc n) [] = refl
map-drop (suc n) (x ∷ code) = map-drop n code

pub drop-none : (n : ℕ) → ◌≡◌ {A = List Instr} (drop n []) []
drop-none zero = refl
drop-none (suc n) = refl

pub ruleset places = (map-drop, drop-none)

map-take : (n : ℕ) (code : List r.Instr) → map view_instr (take n code) ≡ take n (map view_instr code)
map-take zero code = refl
map-take (suc n) [] = refl
map-take (suc n) (x ∷ code) = ap (λ l. view_instr x ∷ l) (map-take n code)

abbrev frame : (block at : ℕ) → (vars stack : List Tree) → Frame
frame block at vars stack = record { block = block; at = at; vars = vars; stack = stack }

commanded : (code : Code) (x : Instr) (f : Frame) → is_command x ≡ true → act code x f [] ≡ Gives f (reverse f.stack)
commanded code (i.Case m v l) f h = refl
commanded code (i.Put a) f h = refl
commanded code (i.Get a v) f h = refl
commanded code (i.Pick a c) f h = refl
commanded code (i.Split a c d) f h = refl
commanded code (i.Close a) f h = refl
commanded code (i.Offer a l) f h = refl
commanded code (i.Fork a c d l) f h = refl
commanded code (i.Halt a) f h = refl
commanded code (i.Link a c) f h = refl
commanded code (i.LinkNeg a c) f h = refl
commanded code (i.Peel a s l) f h = refl
commanded code (i.Race l) f h = refl
commanded code (i.Go p l) f h = refl
commanded code x f h = absurd (cc h)

-- such an instruction does to the frame what it makes of the operands
straight : (code : Code) (x : Instr) (f : Frame) → is_straight x ≡ true → act code x f [] ≡ goes f [] (made x f.vars f.stack)
straight code (i.Int n) f h = refl
straight code (i.Char c) f h = refl
straight code (i.Truth b) f h = refl
straight code i.Nil f h = refl
straight code (i.Text text) f h = sym (goes-pushed f [] f.stack _)
straight code (i.Load v) f h = sym (goes-pushed f [] f.stack _)
straight code i.Cons f h = sym (goes-two f [] f.stack _)
straight code i.Pair f h = sym (goes-two f [] f.stack _)
straight code (i.Build c n) f h = sym (goes-built f [] c (popped n [] f.stack))
straight code (i.Op op) f h = sym (goes-operated f [] f.stack op)
straight code x f h = absurd (cc h)

-- The run

mapped : (o : Option ℕ) (n : ℕ) → option_map suc o ≡ Some n → (m : ℕ) × (o ≡ Some m) × (suc m ≡ n)
mapped None n e = absurd (cc e)
mapped (Some m) n e = (m, refl, cc e)

leaves : (after : After) (f : List Tree → Option (List Tree)) (vs : List Tree) → left after f ≡ Some vs → (s : List Tree) × (after ≡ Leaves s) × (f s ≡ Some vs)
leaves (Leaves s) f vs e = (s, refl, e)
leaves (Stops b) f vs e = absurd (cc e)

found : (o : Option Block) (at : ℕ) → slice_get (code_in o) at ≡ code_at o at
found None at = refl
found (Some b) at = refl

here-is : (code : List Instr) (at : ℕ) (x : Instr) (rest : List Instr) → x ∷ rest ≡ drop at code → (slice_get code at ≡ Some x) × (rest ≡ drop (at + 1) code)
here-is [] zero x rest e = absurd (cc e)
here-is [] (suc at) x rest e = absurd (cc e)
here-is (y ∷ code) zero x rest e = let s : x ≡ y = cc e in let t : rest ≡ code = cc e in (ap Some (sym s), t)
here-is (y ∷ code) (suc at) x rest e =
    let h = here-is code at x rest e in
    let one : suc (at + 1) ≡ suc at + 1 = omega arith in
    (h.0, h.1 ∙ ap (λ n. drop n (y ∷ code)) one)

module _ (code : Code) (block : ℕ) (vars : List Tree) where
  abbrev all : List Instr
  all = code_in (slice_get (blocks code) block)

  abbrev Ends : List Instr → Type 0
  Ends is = (at n : ℕ) (stack vs : List Tree) → is ≡ drop at all → reach is ≡ Some n → all_made vars stack (take n is) ≡ Some vs
      → run code (suc n) (frame block at vars stack) [] 0 ≡ Gave (at + n) vars (reverse vs) 0

  at-command : (x : Instr) (at n : ℕ) (is : List Instr) (stack vs : List Tree) → fetch code (frame block at vars stack) ≡ Some x → is_command x ≡ true → 0 ≡ n → all_made vars stack (take n is) ≡ Some vs
      → run code (suc n) (frame block at vars stack) [] 0 ≡ Gave (at + n) vars (reverse vs) 0
  at-command x at zero is stack vs there h z p =
      let f = frame block at vars stack in
      let next = ap (λ o. does code o f []) there ∙ commanded code x f h in
      let same : stack ≡ vs = cc p in
      let place : at ≡ at + 0 = omega arith in
      ap (λ n. goes_on n f [] (run code 0) 0) next ∙ (λ i. Gave (place i) vars (reverse (same i)) 0)
  at-command x at (suc n) is stack vs there h z p = absurd (cc z)

  at-straight : (x : Instr) (at m : ℕ) (stack s vs : List Tree) → fetch code (frame block at vars stack) ≡ Some x → is_straight x ≡ true → made x vars stack ≡ Leaves s
      → run code (suc m) (frame block (at + 1) vars s) [] 0 ≡ Gave (at + 1 + m) vars (reverse vs) 0
      → run code (suc (suc m)) (frame block at vars stack) [] 0 ≡ Gave (at + suc m) vars (reverse vs) 0
  at-straight x at m stack s vs there is makes later =
      let f = frame block at vars stack in
      let next = ap (λ o. does code o f []) there ∙ (straight code x f is ∙ ap (goes f []) makes) in
      let place : at + 1 + m ≡ at + suc m = omega arith in
      ap (λ n. goes_on n f [] (run code (suc m)) 0) next ∙ later ∙ ap (λ n. Gave n vars (reverse vs) 0) place

  one-more : (x : Instr) (is : List Instr) → Ends is → (c p : Bool) → is_command x ≡ c → is_straight x ≡ p → (at n : ℕ) (stack vs : List Tree) → x ∷ is ≡ drop at all
      → (if c then Some 0 else (if p then option_map suc (reach is) else None)) ≡ Some n → all_made vars stack (take n (x ∷ is)) ≡ Some vs
      → run code (suc n) (frame block at vars stack) [] 0 ≡ Gave (at + n) vars (reverse vs) 0
  one-more x is later true p commands plains at n stack vs here r values =
      let there = here-is all at x is here in
      at-command x at n (x ∷ is) stack vs (sym (found (slice_get (blocks code) block) at) ∙ there.0) commands (cc r) values
  one-more x is later false true commands plains at n stack vs here r values =
      let (m, reaches, long) = mapped (reach is) n r in
      let there = here-is all at x is here in
      let (s, makes, rest) = leaves (made x vars stack) (λ stack. all_made vars stack (take m is)) vs (subst (λ (n : ℕ). all_made vars stack (take n (x ∷ is)) ≡ Some vs) (sym long) values) in
      let ends = at-straight x at m stack s vs (sym (found (slice_get (blocks code) block) at) ∙ there.0) plains makes (later (at + 1) m s vs there.1 reaches rest) in
      subst (λ (n : ℕ). run code (suc n) (frame block at vars stack) [] 0 ≡ Gave (at + n) vars (reverse vs) 0) long ends
  one-more x is later false false commands plains at n stack vs here r values = absurd (cc r)

  ends : (is : List Instr) → Ends is
  ends [] at n stack vs here r p = absurd (cc r)
  ends (x ∷ is) at n stack vs here r p = one-more x is (ends is) (is_command x) (is_straight x) refl refl at n stack vs here r p

  -- what is kept there
  pub straightly : (xs : List r.Instr) (at n to : ℕ) (vs : List Tree) → map view_instr xs ≡ drop at all → Some n ≡ reach (map view_instr xs) → Some vs ≡ all_made vars [] (map view_instr (take n xs)) → to ≡ at + n
      → Keeps code (frame_at block at vars) [] 0 (Values to vars (reverse vs))
  straightly xs at n to vs here r p place =
      let run-is = ends (map view_instr xs) at n [] vs here (sym r) (ap (all_made vars []) (sym (map-take n xs)) ∙ sym p) in
      (suc n, subst IsOver (sym run-is) tt, ap (λ m. Values m vars (reverse vs)) place ∙ ap kept_of (sym run-is))
