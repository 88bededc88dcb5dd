-- The ends and channels at the start, one more at a time.
use Rattle.std.proofs.Common.{◌≡◌, ◌≢◌, ◌⊎◌, inl, inr, refl, sym, ap, subst, ◌∙◌, arith, ℕ, suc, ◌+◌, ◌-◌, ◌<◌, ap₂, length, map, slice_get, true, false, List, [], ◌∷◌, ◌++◌, Option, Some, None, if◌then◌else◌, eq-eqb, ne_eqb, ltb-true, ltb-false, lt-ltb}
use Rattle.std.specs.Prelude.{nat_lt, replicate}
use Rattle.std.proofs.Math.Path.{fun_ext}
use Rattle.campl_value.specs.Tree.{Tree, Nil}
use Rattle.campl_service.specs.Services.{Serving}
use Rattle.campl_code.specs.Instructions.{Block, Code}
use Rattle.campl_code.specs.Frames.{frame_of, frame_size}
use Rattle.campl_cells.specs.Parts.{Ends, Life, Proc, Runs, Serves, Tip, near, far, written}
use Rattle.campl_cells.specs.Steps.{IsLifeOf, KeptAt, borne}
use Rattle.campl_cells.specs.Starts.{first_ends, unborn}
use Rattle.campl_cells.specs.Wants.{Begins, set_end}
use Rattle.campl_cells.proofs.Puts.{same, split, written-append}
use Rattle.campl_parts.specs.declared.part.ProcPart.{ProcPart}
use Rattle.campl_parts.specs.Views.{proc_of}
use Rattle.campl_steps.specs.Begins.{IsFirstLife, attending, channels_from}

-- one more channel's near end
pub first_more : (n : ℕ) → set_end n (near n) (first_ends n) ≡ first_ends (suc n)
first_more n = fun_ext (λ m. go m (same n m))
  where
    before : (m : ℕ) → n ≢ m → (nat_lt m n ≡ true) ⊎ (nat_lt m n ≡ false) → nat_lt m n ≡ nat_lt m (suc n)
    before m ne (inl i) = i ∙ sym (lt-ltb m (suc n) (let h = ltb-true m n i in omega (arith, h)))
    before m ne (inr i) = elim (split (nat_lt m (suc n))) [
      | inl j ↦ absurd (let h = ltb-true m (suc n) j in let g = ltb-false m n i in ne (omega (arith, h, g)))
      | inr j ↦ i ∙ sym j
    ]

    go : (m : ℕ) → (n ≡ m) ⊎ (n ≢ m) → set_end n (near n) (first_ends n) m ≡ first_ends (suc n) m
    go m (inl e) = rw (eq-eqb n m e, lt-ltb m (suc n) (omega (arith, e))) (ap (λ k. Some (near k)) e)
    go m (inr ne) = rw (ne_eqb n m ne) (ap (λ b. if b then Some (near m) else None) (before m ne (split (nat_lt m n))))

less : (n c : ℕ) → c < n → n - c ≡ suc (n - suc c)
less n c h = omega (arith, h)

opens : (count c : ℕ) (t t2 x : ℕ → Option Tip) → c < count → t2 ≡ written (borne (c ∷ [])) t →
    written (borne (channels_from c (count - c))) t ≡ x → written (borne (channels_from (suc c) (count - suc c))) t2 ≡ x
opens count c t t2 x h e i =
    ap (written (borne (channels_from (suc c) (count - suc c)))) e
    ∙ (sym (written-append (borne (channels_from (suc c) (count - suc c))) (borne (c ∷ [])) t)
    ∙ (ap (λ k. written (borne (channels_from c k)) t) (sym (less count c h)) ∙ i))

-- what is left to open, where one more channel is open
pub open_more : (count c : ℕ) (t t2 x : ℕ → Option Tip) → c < count → t2 ≡ written (borne (c ∷ [])) t →
    written (borne (channels_from c (count - c))) t ≡ x → written (borne (channels_from (c + 1) (count - (c + 1)))) t2 ≡ x
open_more count c t t2 x h e i = subst (λ z. written (borne (channels_from z (count - z))) t2 ≡ x) (omega arith) (opens count c t t2 x h e i)

-- what begins at the head of the block with a frame of its own
pub first_life : (code : Code) (number count block missing : ℕ) (vars : List Tree) (ends : Ends) (life : Life) →
    ((b : Block) → slice_get code.processes number ≡ Some b → missing ≡ frame_size code.decisions b - b.variables) →
    vars ≡ replicate missing Nil → block ≡ length code.functions + number → ends ≡ first_ends count →
    IsLifeOf code (Begins (record { block = block; at = 0; vars = vars; ends = ends })) life → IsFirstLife code number count life
first_life code number count block missing vars ends life sized v at e (kept, is, keeps) = (
  kept,
  λ b h. subst (λ z. KeptAt code z 0 (frame_of code.decisions b []) kept) at (subst (λ z. KeptAt code block 0 z kept) (v ∙ ap (λ k. replicate k Nil) (sized b h)) keeps),
  is ∙ ap₂ (λ (z : ℕ) (f : Ends). Runs (record { block = z; ends = f; kept = kept })) at e,
)

-- one more service
pub attend_more : (ps qs : List ProcPart) (p : ProcPart) (n : ℕ) (s : Serving) (rest : List Serving) (x : List Proc) → qs ≡ ps ++ p ∷ [] → proc_of p ≡ unborn (Serves (far n) s) →
    map proc_of ps ++ attending n (s ∷ rest) ≡ x → map proc_of qs ++ attending (n + 1) rest ≡ x
attend_more ps qs p n s rest x e i h =
    subst (λ z. map proc_of qs ++ attending z rest ≡ x) (omega arith)
    (ap (λ l. map proc_of l ++ attending (suc n) rest) e ∙ (pushed ps p (attending (suc n) rest) ∙ (ap (λ q. map proc_of ps ++ q ∷ attending (suc n) rest) i ∙ h)))
  where
    pushed : (ps : List ProcPart) (p : ProcPart) (more : List Proc) → map proc_of (ps ++ p ∷ []) ++ more ≡ map proc_of ps ++ proc_of p ∷ more
    pushed [] p more = refl
    pushed (q ∷ ps) p more = ap (λ l. proc_of q ∷ l) (pushed ps p more)
