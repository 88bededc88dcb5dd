-- The code's runs are the source's.
use Rattle.std.proofs.Common.{◌≡◌, ◌∙◌, refl, sym, ap, subst, ℕ, List, [], ◌∷◌, Option, Some, None}
use Rattle.campl_machine.specs.Names.{Who, Process, Service}
use Rattle.campl_types.specs.World.{World}
use Rattle.campl_meaning.specs.States.{Runs, Serves}
use Rattle.campl_meaning.specs.Reductions.{Configuration, Event, reduce}
use Rattle.campl_code.specs.Instructions.{Code}
use Rattle.campl_code.specs.Frames.{frame_at}
use Rattle.campl_code.proofs.Resume.{settled}
use Rattle.campl_code_bodies.specs.Bodies.{StandsFor}
use Rattle.campl_code_bodies.specs.Commands.{CodeState, RunsCode, Beside, wanted}
use Rattle.campl_code_bodies.specs.Running.{CodeConfiguration, IsEnough, reduce_state, reduce_code, reduce_command, Stand, ReduceAlike}
use Rattle.campl_code_bodies.specs.Runs.{Steps, SourceGoes, CodeGoes}
use Rattle.campl_code_bodies.proofs.Lifted.{reduces-alike}

-- any numbers of instructions that are enough do the same
enough-same : (code : Code) (n m : ℕ) (c : CodeConfiguration) (who : Who) (i : ℕ) (o : Option CodeState) → IsEnough code n o → IsEnough code m o → reduce_state code n c who i o ≡ reduce_state code m c who i o
enough-same code n m c who i None h k = refl
enough-same code n m c (Process p) i (Some (RunsCode cell)) h k =
    ap (λ o. reduce_command c (Process p) (wanted code cell p i o)) (settled code n m (frame_at cell.block cell.at cell.vars) [] cell.spent h k)
enough-same code n m c (Service s) i (Some (RunsCode cell)) h k = refl
enough-same code n m c (Process p) i (Some (Beside s)) h k = refl
enough-same code n m c (Service s) i (Some (Beside (Serves a))) h k = refl
enough-same code n m c (Service s) i (Some (Beside (Runs r))) h k = refl

module _ (w : World) (code : Code) (standing : StandsFor w code) where
  pub code-goes : (steps : Steps) (c : CodeConfiguration) (d : Configuration) (events : List Event) (e : Configuration) → Stand w code c d → SourceGoes w d steps events e → (f : CodeConfiguration) × CodeGoes code c steps events f × Stand w code f e
  code-goes [] c d events e s h = (c, (h.0, refl), subst (Stand w code c) h.1 s)
  code-goes (st ∷ steps) c d events e s h =
      let r = reduces-alike w code standing c d s st.0 st.1 in
      go (reduce_code code r.0 c st.0 st.1) refl (subst (ReduceAlike w code (reduce_code code r.0 c st.0 st.1)) h.4 r.1.1) (λ next s. code-goes steps next h.2 h.1 e s h.5)
    where
      go : (o : Option (Event × CodeConfiguration)) → reduce_code code (reduces-alike w code standing c d s st.0 st.1).0 c st.0 st.1 ≡ o → ReduceAlike w code o (Some (h.0, h.2))
          → ((next : CodeConfiguration) → Stand w code next h.2 → (f : CodeConfiguration) × CodeGoes code next steps h.1 f × Stand w code f e) → (f : CodeConfiguration) × CodeGoes code c (st ∷ steps) events f × Stand w code f e
      go None i a rest = absurd a
      go (Some q) i a rest =
          let x = rest q.1 a.1 in
          let r = reduces-alike w code standing c d s st.0 st.1 in
          let first : events ≡ q.0 ∷ h.1 = h.3 ∙ ap (λ (v : Event). v ∷ h.1) (sym a.0) in
          (x.0, (r.0, q.0, h.1, q.1, first, r.1.0, i, x.1), x.2)

  pub source-goes : (steps : Steps) (c : CodeConfiguration) (d : Configuration) (events : List Event) (f : CodeConfiguration) → Stand w code c d → CodeGoes code c steps events f → (e : Configuration) × SourceGoes w d steps events e × Stand w code f e
  source-goes [] c d events f s h = (d, (h.0, refl), subst (λ c. Stand w code c d) h.1 s)
  source-goes (st ∷ steps) c d events f s h =
      let r = reduces-alike w code standing c d s st.0 st.1 in
      let same = enough-same code r.0 h.0 c st.0 st.1 (c.nodes st.0) r.1.0 h.5 ∙ h.6 in
      go (reduce w d st.0 st.1) refl (subst (λ o. ReduceAlike w code o (reduce w d st.0 st.1)) same r.1.1) (λ next s. source-goes steps h.3 next h.2 f s h.7)
    where
      go : (o : Option (Event × Configuration)) → reduce w d st.0 st.1 ≡ o → ReduceAlike w code (Some (h.1, h.3)) o → ((next : Configuration) → Stand w code h.3 next → (e : Configuration) × SourceGoes w next steps h.2 e × Stand w code f e)
          → (e : Configuration) × SourceGoes w d (st ∷ steps) events e × Stand w code f e
      go None i a rest = absurd a
      go (Some q) i a rest =
          let x = rest q.1 a.1 in
          let first : events ≡ q.0 ∷ h.2 = h.4 ∙ ap (λ (v : Event). v ∷ h.2) a.0 in
          (x.0, (q.0, h.2, q.1, first, i, x.1), x.2)
