-- Who rests waits on the ends of all its branches, and then the tables fit without its flag.
use Rattle.std.proofs.Common.{◌≡◌, ◌≢◌, ◌≤◌, ◌<◌, ◌⊎◌, inl, inr, ℕ, zero, suc, Bool, false, List, [], ◌∷◌, Option, Some, None, length, set, refl, sym, ap, subst, ◌∙◌, arith, get_or-set_other, get_or-set_same, length-set}
use Rattle.campl_machine.specs.Names.{Who}
use Rattle.campl_code.specs.Instructions.{Code}
use Rattle.campl_cells.specs.Parts.{Parts, Proc}
use Rattle.campl_cells.specs.Wants.{Drawn, wanted}
use Rattle.campl_cells.specs.Local.{Watches}
use Rattle.campl_cells.proofs.Puts.{same}
use Rattle.campl_turns.specs.Turns.{IsLonely, Rests, WaitsOn}
use Rattle.campl_steps.specs.Configs.{IsAmong}
use Rattle.campl_steps.specs.Watching.{watched}
use Rattle.campl_order.specs.declared.order.Order.{Order}
use Rattle.campl_order.specs.declared.schedule.Schedule.{Schedule}
use Rattle.campl_order.specs.Boards.{is_flagged}
use Rattle.campl_order.specs.Waiting.{IsScheduled, waiter}
use Rattle.campl_solo.specs.Fits.{Fits, HasWaited, waiting_at}
use Rattle.campl_solo.proofs.Drawing.{HasBranches, among-watched, watched-among, watches-below}

-- One who waits on ends

set-waiter : (ws : List (Option ℕ)) (x p e : ℕ) → (waiter (set ws x (Some p)) e ≡ waiter ws e) ⊎ ((waiter (set ws x (Some p)) e ≡ Some p) × (x ≡ e))
set-waiter [] x p e = inl refl
set-waiter (w ∷ ws) zero p zero = inr (refl, refl)
set-waiter (w ∷ ws) zero p (suc e) = inl refl
set-waiter (w ∷ ws) (suc x) p zero = inl refl
set-waiter (w ∷ ws) (suc x) p (suc e) = elim (set-waiter ws x p e) [ inl h ↦ inl h | inr h ↦ inr (h.0, ap suc h.1) ]

pub waiting-length : (p : ℕ) (es : List ℕ) (ws : List (Option ℕ)) → length (waiting_at p es ws) ≡ length ws
waiting-length p [] ws = refl
waiting-length p (x ∷ es) ws = waiting-length p es (set ws x (Some p)) ∙ length-set ws x (Some p)

waiting-other : (p : ℕ) (es : List ℕ) (ws : List (Option ℕ)) (e : ℕ) → (waiter (waiting_at p es ws) e ≡ waiter ws e) ⊎ ((waiter (waiting_at p es ws) e ≡ Some p) × IsAmong es e)
waiting-other p [] ws e = inl refl
waiting-other p (x ∷ es) ws e = elim (waiting-other p es (set ws x (Some p)) e) [
  | inl h ↦ elim (set-waiter ws x p e) [ inl g ↦ inl (h ∙ g) | inr g ↦ inr (h ∙ g.0, inl g.1) ]
  | inr h ↦ inr (h.0, inr h.1)
]

waiting-own : (p : ℕ) (es : List ℕ) (ws : List (Option ℕ)) (e : ℕ) → IsAmong es e → e < length ws → waiter (waiting_at p es ws) e ≡ Some p
waiting-own p [] ws e h l = absurd h
waiting-own p (x ∷ es) ws e (inr h) l = waiting-own p es (set ws x (Some p)) e h (let q = length-set ws x (Some p) in omega (arith, l, q))
waiting-own p (x ∷ es) ws e (inl q) l =
    let here : waiter (set ws x (Some p)) e ≡ Some p = subst (λ z. waiter (set ws x (Some p)) z ≡ Some p) q (get_or-set_same ws x (Some p) None (omega (arith, l, q))) in
    elim (waiting-other p es (set ws x (Some p)) e) [ inl h ↦ h ∙ here | inr h ↦ h.0 ]

-- Branch by branch

module _ (code : Code) (m : Parts) (p : ℕ) where
  pub waited-none : (ws : List (Option ℕ)) → HasWaited code m p 0 ws ws
  waited-none ws = record { length_is = refl; others = λ e. inl refl; own = λ q there d i e h. absurd (let f : ⊥ = omega (arith, h) in f) }

  pub waited-more : (k : ℕ) (old mid new : List (Option ℕ)) (es : List ℕ) → (q : Proc) → m.process p ≡ Some q → ((q : Proc) → m.process p ≡ Some q → (d : Drawn) → es ≡ watched (wanted code d q.life k)) → Drawn →
      new ≡ waiting_at p es mid → HasWaited code m p k old mid → HasWaited code m p (suc k) old new
  waited-more k old mid new es q there ends d0 is h = record {
    length_is = ap (λ (l : List (Option ℕ)). length l) is ∙ (waiting-length p es mid ∙ h.length_is);
    others = λ e. subst (λ z. (waiter z e ≡ waiter old e) ⊎ ((waiter z e ≡ Some p) × WaitsOn code m p e)) (sym is)
        (elim (waiting-other p es mid e) [
          | inl a ↦ elim (h.others e) [ inl b ↦ inl (a ∙ b) | inr b ↦ inr (a ∙ b.0, b.1) ]
          | inr a ↦ inr (a.0, (q, there, (d0, k, watched-among (wanted code d0 q.life k) e (subst (λ l. IsAmong l e) (ends q there d0) a.1))))
        ]);
    own = λ r at d i e l w short. subst (λ z. waiter z e ≡ Some p) (sym is) (own r at d i e l w short);
  }
    where
      own : (r : Proc) → m.process p ≡ Some r → (d : Drawn) (i e : ℕ) → i < suc k → Watches (wanted code d r.life i) e → e < length old → waiter (waiting_at p es mid) e ≡ Some p
      own r at d i e l w short = elim (same i k) [
        | inl s ↦
            let among : IsAmong es e = subst (λ l. IsAmong l e) (sym (ends r at d)) (among-watched (wanted code d r.life k) e (subst (λ z. Watches (wanted code d r.life z) e) s w)) in
            let g = h.length_is in
            waiting-own p es mid e among (omega (arith, short, g))
        | inr ne ↦
            let before = h.own r at d i e (omega (arith, l, ne)) w short in
            elim (waiting-other p es mid e) [ inl a ↦ a ∙ before | inr a ↦ a.0 ]
      ]

-- Without its flag

module _ (code : Code) (m : Parts) (who : ℕ → Who) (ps es : ℕ) (old new : Schedule) (p count : ℕ) (fits : Fits code m who ps es [] old) where
  pub rested : (q : Proc) → m.process p ≡ Some q → Rests code m p → IsLonely code m → ((e : ℕ) → WaitsOn code m p e → e < es) → 1 ≤ count → HasBranches code m p count →
      (IsScheduled who old → IsScheduled who new) → new.order ≡ old.order → new.board.flags.items ≡ set old.board.flags.items p false →
      HasWaited code m p count old.waiting.items new.waiting.items → Fits code m who ps es [] new
  rested q there rests lonely within some branches scheduled order flags waited = record {
    scheduled = scheduled fits.scheduled;
    processes_are = ap (λ (o : Order). length o.ranks.items) order ∙ fits.processes_are;
    ends_are = waited.length_is ∙ fits.ends_are;
    keeps = record { stuck = stuck; known = known };
  }
    where
      flag-before : (i : ℕ) → i ≢ p → is_flagged new.board.flags.items i ≡ false → is_flagged old.board.flags.items i ≡ false
      flag-before i ne h = sym (get_or-set_other old.board.flags.items p i false false ne) ∙ (sym (ap (λ (l : List Bool). is_flagged l i) flags) ∙ h)

      stuck : (i : ℕ) → i < ps → is_flagged new.board.flags.items i ≡ false → ((e : ℕ) → ⊥ → WaitsOn code m i e → ⊥) → Rests code m i
      stuck i l h none = elim (same i p) [
        | inl e ↦ subst (Rests code m) (sym e) rests
        | inr ne ↦ fits.keeps.stuck i l (flag-before i ne h) none
      ]

      own : (e : ℕ) → WaitsOn code m p e → waiter new.waiting.items e ≡ Some p
      own e (r, at, (d, i, w)) =
          let b = watches-below code m p count some branches r at d i e w in
          let short = within e (r, at, (d, i, w)) in
          let long = fits.ends_are in
          waited.own r at d b.0 e b.1 b.2 (omega (arith, short, long))

      known : (i : ℕ) → i < ps → is_flagged new.board.flags.items i ≡ false → (e : ℕ) → WaitsOn code m i e → waiter new.waiting.items e ≡ Some i
      known i l h e w = elim (same i p) [
        | inl q ↦ own e (subst (λ z. WaitsOn code m z e) q w) ∙ ap Some (sym q)
        | inr ne ↦ elim (waited.others e) [
          | inl a ↦ a ∙ fits.keeps.known i l (flag-before i ne h) e w
          | inr a ↦ absurd (ne (lonely i p e w a.1))
        ]
      ]
