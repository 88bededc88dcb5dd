-- The run of a source at its start.
use Rattle.std.proofs.Common.{◌≡◌, ◌≤◌, ◌<◌, inl, inr, ℕ, zero, suc, ◌+◌, ◌*◌, ◌/◌, false, List, [], ◌∷◌, Option, Some, None, IsSome, length, slice_get, codes, refl, sym, ap, subst, ◌∙◌, arith, true≢false}
use Rattle.std.proofs.Math.Path.{fun_ext}
use Rattle.std.proofs.lemmas.List.{length-map}
use Rattle.std.proofs.lemmas.Option.{slice_get-map}
use Rattle.campl_tree.specs.declared.service.ServiceName.{ServiceName}
use Rattle.campl_tree.specs.Plain.Decl.{Program}
use Rattle.campl_machine.specs.Machine.{Lies}
use Rattle.campl_types.specs.World.{World, world_of}
use Rattle.campl_types.specs.Run.{services_of}
use Rattle.campl_service.specs.Scripts.{Lines}
use Rattle.campl_service.specs.Services.{Serving}
use Rattle.campl_meaning.specs.Lawful.{IsAccepted}
use Rattle.campl_meaning.specs.Start as start
use Rattle.campl_code.specs.Instructions.{Code}
use Rattle.campl_code_bodies.specs.BodyCode.{process_number}
use Rattle.campl_code_bodies.specs.Bodies.{StandsFor}
use Rattle.campl_cells.specs.Parts.{Proc, Serves, Tip, far, near, written}
use Rattle.campl_cells.specs.Steps.{borne}
use Rattle.campl_cells.specs.Starts.{numbers, service_at, start_naming, start_parts, start_process, start_who, unborn}
use Rattle.campl_cells.specs.Local.{IsEndOf}
use Rattle.campl_cells.proofs.Nearby.{lies-borne}
use Rattle.campl_cells.proofs.Puts.{is-there, same, written-else, written-lies}
use Rattle.campl_cells.proofs.Starting.{ends-there}
use Rattle.campl_cells_laws.specs.Sources.{IsStartOf}
use Rattle.campl_cells_laws.proofs.Represented.{parts-stand, parts-there}
use Rattle.campl_turns.specs.Turns.{told_naming}
use Rattle.campl_turns.proofs.Along.{met-start}
use Rattle.campl_turns.proofs.Beginning.{begins-told}
use Rattle.campl_parts.specs.declared.inbox.EndPart.{EndPart}
use Rattle.campl_parts.specs.Tables.{procs, tips}
use Rattle.campl_parts.specs.Views.{proc_of}
use Rattle.campl_steps.specs.Begins.{IsStart, attending, channels_from, first_life}
use Rattle.campl_steps.specs.Configs.{parts}
use Rattle.campl_steps.proofs.Able.{there-is}
use Rattle.campl_order.specs.Boards.{is_flagged}
use Rattle.campl_order.specs.Orders.{names_at_start}
use Rattle.campl_order.specs.Waiting.{AreFlagged, IsScheduled}
use Rattle.campl_order.proofs.Alike.{scheduled-alike}
use Rattle.campl_solo.specs.declared.solo.Solo.{Solo}
use Rattle.campl_solo.specs.Beginning.{ready, servings_at_start}
use Rattle.campl_solo.specs.Solos.{IsAtStart}
use Rattle.campl_solo.proofs.Drawing.{below}
use Rattle.campl_solo.proofs.Growing.{tip-below}

-- Services

servings-length : (xs : List ServiceName) (scripts : List Lines) → length (servings_at_start xs scripts) ≡ length xs
servings-length [] scripts = refl
servings-length (x ∷ xs) [] = ap suc (servings-length xs [])
servings-length (x ∷ xs) (s ∷ scripts) = ap suc (servings-length xs scripts)

attending-length : (n : ℕ) (servings : List Serving) → length (attending n servings) ≡ length servings
attending-length n [] = refl
attending-length n (s ∷ servings) = ap suc (attending-length (suc n) servings)

numbers-from : (n : ℕ) (xs : List ServiceName) → channels_from n (length xs) ≡ numbers n xs
numbers-from n [] = refl
numbers-from n (x ∷ xs) = ap (λ l. n ∷ l) (numbers-from (suc n) xs)

served : (x : ServiceName) (lines : Lines) (n j : ℕ) → n ≡ j → Some (unborn (Serves (far n) (ready x lines))) ≡ Some (unborn (Serves (far j) (ready x lines)))
served x lines n j e = ap (λ j. Some (unborn (Serves (far j) (ready x lines)))) e

attending-at : (n : ℕ) (xs : List ServiceName) (scripts : List Lines) (k j : ℕ) → j ≡ n + k →
    slice_get (attending n (servings_at_start xs scripts)) k ≡ service_at j (slice_get (start.attending n xs scripts) k)
attending-at n [] scripts k j e = refl
attending-at n (x ∷ xs) [] zero j e = served x [] n j (omega (arith, e))
attending-at n (x ∷ xs) (s ∷ scripts) zero j e = served x s n j (omega (arith, e))
attending-at n (x ∷ xs) [] (suc k) j e = attending-at (suc n) xs [] k j (omega (arith, e))
attending-at n (x ∷ xs) (s ∷ scripts) (suc k) j e = attending-at (suc n) xs scripts k j (omega (arith, e))

-- Ends

ends-below : (n : ℕ) (xs : List ServiceName) (k : ℕ) → IsEndOf (numbers n xs) k → k < 2 * (n + length xs)
ends-below n [] k h = absurd h
ends-below n (x ∷ xs) k (inl e) = omega (arith, e)
ends-below n (x ∷ xs) k (inr (inl e)) = omega (arith, e)
ends-below n (x ∷ xs) k (inr (inr h)) = let l = ends-below (suc n) xs k h in omega (arith, l)

tip-there : (es : List EndPart) (k : ℕ) → k < length es → tips es k ≡ None → ⊥
tip-there [] k l e = omega (arith, l)
tip-there (x ∷ es) zero l e = cc e
tip-there (x ∷ es) (suc k) l e = tip-there es k (omega (arith, l)) e

module _ (xs : List ServiceName) (es : List EndPart) (is : tips es ≡ written (borne (numbers 0 xs)) (λ e. None)) where
  there : (k : ℕ) → k < 2 * length xs → IsSome (tips es k)
  there k l =
      let j : k / 2 < length xs = omega (arith, l) in
      let lies = ends-there 0 xs (k / 2) (k / 2) (omega arith) j in
      subst (λ (f : ℕ → Option Tip). IsSome (f k)) (sym is) (written-lies (borne (numbers 0 xs)) (λ e. None) k (elim (same k (near (k / 2))) [
        | inl e ↦ subst (Lies (borne (numbers 0 xs))) (sym e) lies.0
        | inr e ↦ let o : far (k / 2) ≡ k = omega (arith, e) in subst (Lies (borne (numbers 0 xs))) o lies.1
      ]))

  gone : (k : ℕ) → 2 * length xs ≤ k → tips es k ≡ None
  gone k l =
      ap (λ (f : ℕ → Option Tip). f k) is
      ∙ written-else (borne (numbers 0 xs)) (λ e. None) k (λ h. let b = ends-below 0 xs k (lies-borne (numbers 0 xs) k h) in let f : ⊥ = omega (arith, l, b) in f)

  ends-count : length es ≡ 2 * length xs
  ends-count = elim (below (length es) (2 * length xs)) [
    | inl l ↦ absurd (let z = tip-below es (length es) (there (length es) l) in let f : ⊥ = omega (arith, z) in f)
    | inr g ↦ elim (below (2 * length xs) (length es)) [
      | inl l ↦ absurd (tip-there es (2 * length xs) l (gone (2 * length xs) (omega arith)))
      | inr h ↦ omega (arith, g, h)
    ]
  ]

-- The start

module _ (source : Program) (code : Code) (scripts : List Lines) (accepted : IsAccepted source) (standing : StandsFor (world_of source) code) (number : ℕ) (numbered : process_number (world_of source) (codes "run") ≡ Some number)
    (solo : Solo) (z : IsStart code number (servings_at_start (services_of (world_of source)) scripts) solo.config) where
  abbrev w : World
  w = world_of source

  abbrev xs : List ServiceName
  xs = services_of w

  count : length (servings_at_start xs scripts) ≡ length xs
  count = servings-length xs scripts

  process-at : (k : ℕ) → (parts solo.config).process k ≡ start_process w code number z.kept scripts k
  process-at k = sym (slice_get-map proc_of solo.config.processes.items k) ∙ (ap (λ (l : List Proc). slice_get l k) z.process ∙ each k)
    where
      each : (k : ℕ) → slice_get (unborn (first_life code number (length (servings_at_start xs scripts)) z.kept) ∷ attending 0 (servings_at_start xs scripts)) k ≡ start_process w code number z.kept scripts k
      each zero = ap (λ c. Some (unborn (first_life code number c z.kept))) count
      each (suc k) = attending-at 0 xs scripts k k (omega arith)

  tip-is : (parts solo.config).tip ≡ written (borne (numbers 0 xs)) (λ e. None)
  tip-is = z.tips ∙ ap (λ l. written (borne l) (λ e. None)) (ap (channels_from 0) count ∙ numbers-from 0 xs)

  parts-are : parts solo.config ≡ start_parts w code number z.kept scripts
  parts-are = let a = fun_ext process-at in let b = tip-is in λ i. record { process = a i; tip = b i }

  starts : IsStartOf w code scripts (parts solo.config)
  starts =
      let t = (parts-there source code scripts accepted standing).1 in
      let f : Some t.number ≡ Some number = sym t.numbered ∙ numbered in
      let e : t.number ≡ number = cc f in
      let there = subst (λ k. slice_get code.processes k ≡ Some t.block) e t.there in
      record { number = number; block = t.block; kept = z.kept; numbered = numbered; there = there; keeps = z.keeps t.block there; is = parts-are }

  processes-count : length solo.config.processes.items ≡ suc (length xs)
  processes-count =
      let a = length-map solo.config.processes.items proc_of in
      let b = ap (λ (l : List Proc). length l) z.process in
      let c = attending-length 0 (servings_at_start xs scripts) in
      let d = count in
      omega (arith, a, b, c, d)

  pub at-start : (total : ℕ) → total ≡ length (servings_at_start xs scripts) → IsScheduled names_at_start solo.schedule → AreFlagged solo.schedule.board.flags.items (total + 1) → length solo.schedule.order.ranks.items ≡ total + 1 →
      length solo.schedule.waiting.items ≡ 2 * total → IsAtStart source code scripts solo
  at-start total all scheduled flagged ranks waiting = record {
    run = record {
      met = met-start source scripts accepted;
      stands = standing;
      represents = parts-stand source code scripts accepted standing (parts solo.config) starts;
      tables = record {
        scheduled = scheduled-alike names_at_start start_who solo.schedule scheduled (λ i h. who-same i);
        processes = let p = processes-count in let n = count in omega (arith, ranks, p, all, n);
        ends = let e = ends-count xs solo.config.ends.items tip-is in let n = count in omega (arith, waiting, e, all, n);
        keeps = record {
          stuck = λ i l h none. absurd (up i l h);
          known = λ i l h e w. absurd (up i l h);
        };
      };
      services = λ k l. let t = there-is solo.config.processes.items (suc k) (let c = processes-count in omega (arith, l, c)) in (is-there (procs solo.config.processes.items (suc k)) t.0 t.1, refl);
    };
    told = ap (told_naming start_naming) parts-are ∙ begins-told w code number z.kept scripts;
  }
    where
      who-same : (i : ℕ) → start_who i ≡ names_at_start i
      who-same zero = refl
      who-same (suc i) = refl

      up : (i : ℕ) → i < length solo.config.processes.items → is_flagged solo.schedule.board.flags.items i ≡ false → ⊥
      up i l h = true≢false (sym (flagged i (let c = processes-count in let n = count in omega (arith, l, c, all, n))) ∙ h)
