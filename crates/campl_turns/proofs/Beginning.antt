-- The start as journals read it.
use Rattle.std.proofs.Common.{◌≡◌, ◌≢◌, ◌≤◌, ◌<◌, ◌⊎◌, inl, inr, ℕ, zero, suc, ◌+◌, List, [], ◌∷◌, Option, Some, None, length, option_map, slice_get, refl, sym, ap, ap₂, ◌∙◌, arith}
use Rattle.std.specs.Prelude.{nat_lt}
use Rattle.std.proofs.Math.Path.{fun_ext}
use Rattle.campl_tree.specs.declared.service.ServiceName.{ServiceName}
use Rattle.campl_machine.specs.Names.{End, Who, Service}
use Rattle.campl_types.specs.World.{World}
use Rattle.campl_types.specs.Run.{services_of}
use Rattle.campl_service.specs.Scripts.{Lines}
use Rattle.campl_meaning.specs.Journals as journals
use Rattle.campl_meaning.specs.Journals.{naming_at_start}
use Rattle.campl_meaning.specs.Start as start
use Rattle.campl_code.specs.Instructions.{Code}
use Rattle.campl_code_bodies.specs.Kept.{Kept}
use Rattle.campl_cells.specs.Parts.{Tip, far, near, written}
use Rattle.campl_cells.specs.Steps.{borne}
use Rattle.campl_cells.specs.Starts.{numbers, service_at, start_naming, start_parts}
use Rattle.campl_cells.specs.Local.{IsEndOf}
use Rattle.campl_cells.proofs.Fresh.{far-far, far-near, near-far, near-near}
use Rattle.campl_cells.proofs.Nearby.{lies-borne}
use Rattle.campl_cells.proofs.Puts.{split, written-else, written-lies}
use Rattle.campl_cells.proofs.Starting.{ends-there, far-named, near-named}
use Rattle.campl_turns.specs.Turns.{told_channel, told_naming}
use Rattle.campl_turns.proofs.Told.{told-first}

-- What journals read at the start, as functions of a list of services. Theirs are private there, and compute to the same.

abbrev serving_at : ℕ → List ServiceName → ℕ → Option Who
serving_at n [] k = None
serving_at n (x ∷ xs) zero = Some (Service n)
serving_at n (x ∷ xs) (suc k) = serving_at (suc n) xs k

abbrev wire_at : ℕ → List ServiceName → ℕ → Option (End × End)
wire_at n [] k = None
wire_at n (x ∷ xs) zero = Some (start.near n, start.far n)
wire_at n (x ∷ xs) (suc k) = wire_at (suc n) xs k

serving-told : (n : ℕ) (xs : List ServiceName) (scripts : List Lines) (k j : ℕ) → j ≡ n + k →
    option_map (λ q. Service j) (service_at j (slice_get (start.attending n xs scripts) k)) ≡ serving_at n xs k
serving-told n [] scripts k j e = refl
serving-told n (x ∷ xs) scripts zero j e = ap (λ j. Some (Service j)) (omega (arith, e))
serving-told n (x ∷ xs) scripts (suc k) j e = serving-told (suc n) xs _ k j (omega (arith, e))

wire-there : (n : ℕ) (xs : List ServiceName) (k j : ℕ) → j ≡ n + k → k < length xs → wire_at n xs k ≡ Some (start.near j, start.far j)
wire-there n [] k j e l = absurd (let f : ⊥ = omega (arith, l) in f)
wire-there n (x ∷ xs) zero j e l = ap (λ j. Some (start.near j, start.far j)) (let q : n ≡ j = omega (arith, e) in q)
wire-there n (x ∷ xs) (suc k) j e l = wire-there (suc n) xs k j (omega (arith, e)) (omega (arith, l))

wire-gone : (n : ℕ) (xs : List ServiceName) (k : ℕ) → length xs ≤ k → wire_at n xs k ≡ None
wire-gone n [] k l = refl
wire-gone n (x ∷ xs) zero l = absurd (let f : ⊥ = omega (arith, l) in f)
wire-gone n (x ∷ xs) (suc k) l = wire-gone (suc n) xs k (omega (arith, l))

-- a later channel has no end among those of the services
not-there : (n : ℕ) (xs : List ServiceName) (j : ℕ) → n + length xs ≤ j → (IsEndOf (numbers n xs) (near j) → ⊥) × (IsEndOf (numbers n xs) (far j) → ⊥)
not-there n [] j l = ((λ h. h), (λ h. h))
not-there n (x ∷ xs) j l =
    let apart : n ≢ j = (λ q. let f : ⊥ = omega (arith, l, q) in f) in
    let more = not-there (suc n) xs j (omega (arith, l)) in (
      λ h. elim h [ inl e ↦ near-near n j apart e | inr h ↦ elim h [ inl e ↦ far-near n j e | inr h ↦ more.0 h ] ],
      λ h. elim h [ inl e ↦ near-far n j e | inr h ↦ elim h [ inl e ↦ far-far n j apart e | inr h ↦ more.1 h ] ],
    )

below-or : (k n : ℕ) → (k < n) ⊎ (n ≤ k)
below-or k n = elim (split (nat_lt k n)) [ inl e ↦ inl (grind arith) | inr e ↦ inr (grind arith) ]

module _ (w : World) (code : Code) (g : ℕ) (kept : Kept) (scripts : List Lines) where
  abbrev told : journals.Naming
  told = told_naming start_naming (start_parts w code g kept scripts)

  who-told : (k : ℕ) → told.who k ≡ (naming_at_start w).who k
  who-told zero = refl
  who-told (suc k) = serving-told 0 (services_of w) scripts k k (omega arith)

  abbrev ends : List (ℕ × Tip)
  ends = borne (numbers 0 (services_of w))

  none-at : (k : ℕ) → (IsEndOf (numbers 0 (services_of w)) k → ⊥) → written ends (λ e. None) k ≡ None
  none-at k h = written-else ends (λ e. None) k (λ l. h (lies-borne (numbers 0 (services_of w)) k l))

  channel-told : (k : ℕ) → told.channel k ≡ (naming_at_start w).channel k
  channel-told k = elim (below-or k (length (services_of w))) [
    | inl l ↦
        told-first (start_naming.end (near k), start_naming.end (far k)) (written ends (λ e. None) (near k)) (written ends (λ e. None) (far k)) (written-lies ends (λ e. None) (near k) (ends-there 0 (services_of w) k k (omega arith) l).0)
        ∙ (ap₂ (λ x y. Some (x, y)) (near-named k) (far-named k) ∙ sym (wire-there 0 (services_of w) k k (omega arith) l))
    | inr l ↦
        let h = not-there 0 (services_of w) k (omega (arith, l)) in
        ap₂ (told_channel (start_naming.end (near k), start_naming.end (far k))) (none-at (near k) h.0) (none-at (far k) h.1) ∙ sym (wire-gone 0 (services_of w) k l)
  ]

  pub begins-told : told ≡ naming_at_start w
  begins-told = let a = fun_ext who-told in let b = fun_ext channel-told in λ i. record { who = a i; channel = b i }
