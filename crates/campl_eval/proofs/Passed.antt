-- A match that changes no variable, behind the loads of its values.
use Rattle.std.proofs.Common.{length-append, ◌≡◌, ◌∙◌, ap, sym, subst, refl, arith, ℕ, zero, suc, ◌+◌, ◌<◌, ◌≤◌, List, [], ◌∷◌, ◌++◌, length, reverse, take, drop, Some}
use Rattle.std.specs.Prelude.{slice_get, option_map}
use Rattle.std.proofs.lemmas.List.{reverse-append, length-reverse, length-take-le}
use Rattle.campl_value.specs.Tree.{Tree}
use Rattle.campl_code.specs.Decisions.{Decision, Spot, chosen, values_at}
use Rattle.campl_code.specs.Instructions.{Instr, Block, Code, blocks}
use Rattle.campl_code.specs.Instructions as i
use Rattle.campl_code.specs.Frames.{Frame, set_from}
use Rattle.campl_code.specs.Results.{Value, perhaps}
use Rattle.campl_code.specs.Machine.{Goes, code_at, does, matches, pushes}
use Rattle.campl_eval.specs.Leaps.{Comes, Within, Passes}
use Rattle.campl_eval.proofs.Acts.{matches-on, row-goes}
use Rattle.campl_eval.proofs.Leaping.{on, one, onto, stays}
use Rattle.campl_operands.proofs.Tops.{parts}

pub unmoved : (code : Code) (f : Frame) → Comes code f f
unmoved code f = (0, refl)

-- what is behind some steps, within a block
pub behind : (code : Code) (b : Block) (f g h : Frame) → slice_get (blocks code) f.block ≡ Some b → g.block ≡ f.block → Comes code f g → Within b g h → Comes code f h
behind code b f g h here same c w = onto code c.0 f g h c.1 (w.comes code (ap (slice_get (blocks code)) same ∙ here))

-- one more variable
one-more : (i : ℕ) (vs : List Tree) → i < length vs → (v : Tree) × (slice_get vs i ≡ Some v) × (take (suc i) vs ≡ take i vs ++ v ∷ [])
one-more i [] h = absurd (omega (arith, h))
one-more zero (v ∷ vs) h = (v, refl, refl)
one-more (suc i) (u ∷ vs) h = let k : i < length vs = omega (arith, h) in let r = one-more i vs k in (r.0, r.1, ap (λ l. u ∷ l) r.2)

module _ (b : Block) (n at : ℕ) (vars stack : List Tree) where
  abbrev loaded : ℕ → Frame
  loaded i = record { block = n; at = at + i; vars = vars; stack = reverse (take i vars) ++ stack }

  pub none-loaded : Within b (record { block = n; at = at; vars = vars; stack = stack }) (loaded 0)
  none-loaded = let z : at + 0 ≡ at = omega arith in stays b _ _ (ap (λ (k : ℕ). record { block = n; at = k; vars = vars; stack = stack }) z)

  top : (i : ℕ) (v : Tree) → take (suc i) vars ≡ take i vars ++ v ∷ [] → reverse (take (suc i) vars) ++ stack ≡ v ∷ (reverse (take i vars) ++ stack)
  top i v e = ap (λ l. reverse l ++ stack) e ∙ ap (λ l. l ++ stack) (reverse-append (take i vars) (v ∷ []))

  pub next-loaded : (k : ℕ) (f : Frame) → k < length vars → slice_get b.code (at + k) ≡ Some (i.Load k) → Within b f (loaded k) → Within b f (loaded (k + 1))
  next-loaded k f h there w =
      let r = one-more k vars h in
      let s : at + k + 1 ≡ at + (k + 1) = omega arith in
      let t : suc k ≡ k + 1 = omega arith in
      let q : reverse (take (k + 1) vars) ++ stack ≡ r.0 ∷ (reverse (take k vars) ++ stack) = subst (λ (j : ℕ). reverse (take j vars) ++ stack ≡ r.0 ∷ (reverse (take k vars) ++ stack)) t (top k r.0 r.2) in
      on b f (loaded k) (loaded (k + 1)) w (one b (loaded k) (loaded (k + 1)) (i.Load k) there refl (omega arith)
      (λ code fs. ap (λ o. pushes (loaded k) fs (reverse (take k vars) ++ stack) (perhaps o Value)) r.1
      ∙ ap (λ (j : ℕ). Goes (record { block = n; at = j; vars = vars; stack = r.0 ∷ (reverse (take k vars) ++ stack) }) fs) s
      ∙ ap (λ l. Goes (record { block = n; at = at + (k + 1); vars = vars; stack = l }) fs) (sym q)))

  pub passed : (code : Code) (d first to k : ℕ) (places : List ℕ) (dec : Decision) → slice_get (blocks code) n ≡ Some b → Within b (record { block = n; at = at; vars = vars; stack = stack }) (loaded k)
      → slice_get b.code (at + k) ≡ Some (i.Match d first places) → slice_get code.decisions d ≡ Some dec → Passes dec vars k first places to
      → Comes code (record { block = n; at = at; vars = vars; stack = stack }) (record { block = n; at = to; vars = vars; stack = stack })
  passed code d first to k places dec here w there known passes =
      let c = w.comes code here in
      onto code c.0 _ (loaded k) _ c.1 (
        1,
        (
          record { block = n; at = to; vars = vars; stack = stack },
          (λ fs. ap (λ o. does code (code_at o (at + k)) (loaded k) fs) here ∙ ap (λ o. does code o (loaded k) fs) there
              ∙ ap (λ o. matches o first places (loaded k) fs) known ∙ passes n (at + k) stack fs),
          refl,
        ),
      )

long-enough : (xs ys : List Tree) (n : ℕ) → length xs ≡ n → n ≤ length (reverse xs ++ ys)
long-enough xs ys n e = let a : length (reverse xs) ≡ length xs = length-reverse xs in let l : length (reverse xs ++ ys) ≡ length (reverse xs) + length ys = length-append (reverse xs) ys in omega (arith, a, l, e)

module _ (d : Decision) (vars : List Tree) (first row to : ℕ) (places : List ℕ) (spots : List Spot) where
  by-width : d.width ≤ length vars → chosen d.tree (take d.width vars) ≡ option_map (λ ts. (row, ts)) (values_at (take d.width vars) spots)
      → option_map (λ ts. set_from first ts vars) (values_at (take d.width vars) spots) ≡ Some vars → slice_get places row ≡ Some to → Passes d vars d.width first places to
  by-width h c s p block at stack fs =
      let all = reverse (take d.width vars) ++ stack in
      let is = parts all (take d.width vars) stack d.width (length-take-le d.width vars h, refl) in
      let f : Frame = record { block = block; at = at; vars = vars; stack = all } in
      let long : d.width ≤ length all = long-enough (take d.width vars) stack d.width (length-take-le d.width vars h) in
      matches-on first places f fs (Some d) d refl (take d.width vars) _ long is.0 c
      ∙ row-goes first places f fs row to (drop d.width all) vars (values_at (take d.width vars) spots) s p
      ∙ ap (λ l. Goes (record { block = block; at = to; vars = vars; stack = l }) fs) (sym is.1)

  pub pass-on : (n : ℕ) → d.width ≡ n → n ≤ length vars → chosen d.tree (take n vars) ≡ option_map (λ ts. (row, ts)) (values_at (take n vars) spots)
      → option_map (λ ts. set_from first ts vars) (values_at (take n vars) spots) ≡ Some vars → slice_get places row ≡ Some to → Passes d vars n first places to
  pass-on n w h c s p =
      let e = sym w in
      subst (λ (k : ℕ). Passes d vars k first places to) w (by-width (rw e at h) (rw e at c) (rw e at s) p)
