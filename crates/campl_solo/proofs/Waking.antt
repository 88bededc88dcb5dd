-- Whoever waits on an end is flagged when something changes there.
use Rattle.std.proofs.Common.{◌≡◌, ◌<◌, inl, inr, ℕ, zero, suc, Bool, true, false, List, [], ◌∷◌, Option, Some, None, length, set, refl, sym, ap, subst, ◌∙◌, arith, get_or-set_other, get_or-set_same, length-set, true≢false}
use Rattle.campl_machine.specs.Names.{Who}
use Rattle.campl_code.specs.Instructions.{Code}
use Rattle.campl_cells.specs.Parts.{Parts}
use Rattle.campl_cells.proofs.Puts.{same}
use Rattle.campl_turns.specs.Turns.{Rests, WaitsOn}
use Rattle.campl_order.specs.declared.order.Order.{Order}
use Rattle.campl_order.specs.declared.schedule.Schedule.{Schedule}
use Rattle.campl_order.specs.Boards.{is_flagged}
use Rattle.campl_order.specs.Waiting.{IsAmong, IsScheduled, flags_woken, waiter}
use Rattle.campl_solo.specs.Fits.{Fits}

pub flagged-within : (flags : List Bool) (i : ℕ) → is_flagged flags i ≡ true → i < length flags
flagged-within [] i h = absurd (cc h)
flagged-within (f ∷ flags) zero h = omega arith
flagged-within (f ∷ flags) (suc i) h = let l = flagged-within flags i h in omega (arith, l)

-- flags only rise
woken-rises : (o : Option ℕ) (flags : List Bool) (i : ℕ) → is_flagged (flags_woken o flags) i ≡ false → is_flagged flags i ≡ false
woken-rises None flags i h = h
woken-rises (Some j) flags i h = elim (same i j) [
  | inl e ↦ go (is_flagged flags i) refl e
  | inr ne ↦ sym (get_or-set_other flags j i true false ne) ∙ h
]
  where
    past : i ≡ j → is_flagged flags i ≡ true → i < length flags → is_flagged flags i ≡ false
    past e t l = let f : true ≡ false = sym (subst (λ z. is_flagged (set flags j true) z ≡ true) (sym e) (get_or-set_same flags j true false (omega (arith, e, l)))) ∙ h in absurd (true≢false f)

    go : (b : Bool) → is_flagged flags i ≡ b → i ≡ j → is_flagged flags i ≡ false
    go false t e = t
    go true t e = past e t (flagged-within flags i t)

-- the one who waited on the end
woken-own : (o : Option ℕ) (flags : List Bool) (i : ℕ) → o ≡ Some i → i < length flags → is_flagged (flags_woken o flags) i ≡ true
woken-own o flags i e l = ap (λ o. is_flagged (flags_woken o flags) i) e ∙ get_or-set_same flags i true false l

pub woken : (code : Code) (m : Parts) (who : ℕ → Who) (ps es end : ℕ) (rest : List ℕ) (old new : Schedule) → Fits code m who ps es (end ∷ rest) old → (IsScheduled who old → IsScheduled who new) →
    new.order ≡ old.order → new.board.flags.items ≡ flags_woken (waiter old.waiting.items end) old.board.flags.items → new.waiting.items ≡ set old.waiting.items end None → Fits code m who ps es rest new
woken code m who ps es end rest old new fits scheduled order flags waiting = record {
  scheduled = scheduled fits.scheduled;
  processes_are = ap (λ (o : Order). length o.ranks.items) order ∙ fits.processes_are;
  ends_are = ap (λ (l : List (Option ℕ)). length l) waiting ∙ (length-set old.waiting.items end None ∙ fits.ends_are);
  keeps = record { stuck = stuck; known = known };
}
  where
    before : (i : ℕ) → is_flagged new.board.flags.items i ≡ false → is_flagged old.board.flags.items i ≡ false
    before i h = woken-rises (waiter old.waiting.items end) old.board.flags.items i (sym (ap (λ (l : List Bool). is_flagged l i) flags) ∙ h)

    -- who isn't flagged now doesn't wait on this end
    elsewhere : (i : ℕ) → i < ps → is_flagged new.board.flags.items i ≡ false → WaitsOn code m i end → ⊥
    elsewhere i l h w =
        let knows = fits.keeps.known i l (before i h) end w in
        let room = fits.scheduled.room in
        let count = fits.processes_are in
        let own = woken-own (waiter old.waiting.items end) old.board.flags.items i knows (omega (arith, l, room, count)) in
        true≢false (sym own ∙ (sym (ap (λ (l : List Bool). is_flagged l i) flags) ∙ h))

    stuck : (i : ℕ) → i < ps → is_flagged new.board.flags.items i ≡ false → ((e : ℕ) → IsAmong rest e → WaitsOn code m i e → ⊥) → Rests code m i
    stuck i l h none = fits.keeps.stuck i l (before i h) (λ e a w. elim a [
      | inl q ↦ elsewhere i l h (subst (WaitsOn code m i) (sym q) w)
      | inr a ↦ none e a w
    ])

    known : (i : ℕ) → i < ps → is_flagged new.board.flags.items i ≡ false → (e : ℕ) → WaitsOn code m i e → waiter new.waiting.items e ≡ Some i
    known i l h e w = elim (same e end) [
      | inl q ↦ absurd (elsewhere i l h (subst (WaitsOn code m i) q w))
      | inr ne ↦ ap (λ (l : List (Option ℕ)). waiter l e) waiting ∙ (get_or-set_other old.waiting.items end e None None ne ∙ fits.keeps.known i l (before i h) e w)
    ]
