-- Runs by number, step by step.
use Rattle.std.proofs.Common.{◌≡◌, ℕ, List, [], ◌∷◌, Option, Some, None, IsSome, IfSome, map, option_map, refl, sym, ap, ap₂, subst, ◌∙◌}
use Rattle.campl_machine.specs.Names.{End, Who}
use Rattle.campl_value.specs.declared.message.Message.TheVariants.{Word, Pick, Ends as EndPair}
use Rattle.campl_meaning.specs.States as s
use Rattle.campl_meaning.specs.States.{Message}
use Rattle.campl_meaning.specs.Reductions.{Event}
use Rattle.campl_code.specs.Instructions.{Code}
use Rattle.campl_code_bodies.specs.Running.{CodeConfiguration, IsEnough, reduce_state, reduce_code}
use Rattle.campl_code_bodies.specs.Runs.{CodeGoes}
use Rattle.campl_cells.specs.Parts.{Mail, Proc, Parts, near, far}
use Rattle.campl_cells.specs.Wants.{Drawn}
use Rattle.campl_cells.specs.Steps.{Entry, Steps, IsStill, after, peopled}
use Rattle.campl_cells.specs.Stands.{Naming, StandsFor, Grows, IsFresh, IsEntryOf, IsEnd, MailWithin, StepsAlike, named_mail, named_child, named_channels, named_entry}
use Rattle.campl_cells.specs.Runs.{Turn, PartsGo, named_turns, named_entries}
use Rattle.campl_cells.proofs.Puts.{written-keeps}
use Rattle.campl_cells.proofs.Theorem.{step-alike, entry-there, enough-there}

-- An entry has the same names where names only grew

one-name : (f g : ℕ → End) (There : ℕ → Type 0) → ((e : ℕ) → There e → g e ≡ f e) → (o : Option ℕ) → IfSome o There → option_map g o ≡ option_map f o
one-name f g There same None h = refl
one-name f g There same (Some e) h = ap Some (same e h)

one-mail : (f g : ℕ → End) (There : ℕ → Type 0) → ((e : ℕ) → There e → g e ≡ f e) → (o : Option Mail) → IfSome o (MailWithin There) → option_map (named_mail g) o ≡ option_map (named_mail f) o
one-mail f g There same None h = refl
one-mail f g There same (Some (Word v)) h = refl
one-mail f g There same (Some (Pick x)) h = refl
one-mail f g There same (Some (EndPair a b)) h = ap₂ (λ x y. Some (s.EndPair x y)) (same a h.0) (same b h.1)

one-child : (n n2 : Naming) (m : Parts) → Grows n n2 m → (o : Option ℕ) → IfSome o (λ i. IsSome (m.process i)) → named_child n2 o ≡ named_child n o
one-child n n2 m g None h = refl
one-child n n2 m g (Some i) h = ap (λ w. w ∷ []) (g.who i h)

few-channels : (n n2 : Naming) (m : Parts) → Grows n n2 m → (o r : Option ℕ) → IfSome o (λ c. IsEnd m.tip (near c) × IsEnd m.tip (far c)) → IfSome r (λ c. IsEnd m.tip (near c) × IsEnd m.tip (far c)) →
    named_channels n2 o r ≡ named_channels n o r
few-channels n n2 m g None r h k = refl
few-channels n n2 m g (Some a) None h k = ap₂ (λ x y. (x, y) ∷ []) (g.end (near a) h.0) (g.end (far a) h.1)
few-channels n n2 m g (Some a) (Some b) h k =
    ap₂ (λ x y. x ∷ y ∷ []) (ap₂ (λ x y. (x, y)) (g.end (near a) h.0) (g.end (far a) h.1)) (ap₂ (λ x y. (x, y)) (g.end (near b) k.0) (g.end (far b) k.1))

pub same-event : (n n2 : Naming) (m : Parts) → Grows n n2 m → (e : Entry) → IsEntryOf m e → named_entry n2 e ≡ named_entry n e
same-event n n2 m g e h = λ i. record {
  kind = e.kind;
  end = one-name n.end n2.end (IsEnd m.tip) g.end e.end h.end i;
  second = one-name n.end n2.end (IsEnd m.tip) g.end e.second h.second i;
  message = one-mail n.end n2.end (IsEnd m.tip) g.end e.message h.message i;
  children = one-child n n2 m g e.child h.child i;
  channels = few-channels n n2 m g e.channel e.channel2 h.channel h.channel2 i;
}

-- Steps

-- numbers in use stay in use
keeps-process : (code : Code) (d : Drawn) (m : Parts) (p i : ℕ) (entry : Entry) (m2 : Parts) → Steps code d m p i entry m2 → (k : ℕ) → IsSome (m.process k) → IsSome (m2.process k)
keeps-process code d m p i entry m2 s k h = subst (λ (x : Parts). IsSome (x.process k)) (sym s.parts) (written-keeps (peopled d p s.process s.life s.child) m.process k h)

keeps-end : (code : Code) (d : Drawn) (m : Parts) (p i : ℕ) (entry : Entry) (m2 : Parts) → Steps code d m p i entry m2 → (k : ℕ) → IsSome (m.tip k) → IsSome (m2.tip k)
keeps-end code d m p i entry m2 s k h = subst (λ (x : Parts). IsSome (x.tip k)) (sym s.parts) (written-keeps s.change.ends m.tip k h)

pub entry-of-step : (code : Code) (n : Naming) (m : Parts) (c : CodeConfiguration) → StandsFor code n m c → (d : Drawn) → IsFresh d m → (p i : ℕ) (entry : Entry) (m2 : Parts) → Steps code d m p i entry m2 → IsEntryOf m2 entry
entry-of-step code n m c z d fresh p i entry m2 s =
    let k = enough-there code n m c z p s.process s.there in
    let a : IsEntryOf (after d m p s.process s.change s.life s.child) s.change.entry = entry-there code n m c z d fresh p s.process s.there i k.0 k.1 s.change s.changes s.life s.child s.lives s.bears in
    subst (IsEntryOf m2) (sym s.named) (subst (λ x. IsEntryOf x s.change.entry) (sym s.parts) a)

-- one step of the code, under a naming that grew
pub record Made (code : Code) (n : Naming) (m : Parts) (c : CodeConfiguration) (p i : ℕ) (entry : Entry) (m2 : Parts) : Type 0 where
  pub naming : Naming
  pub grows : Grows n naming m
  pub next : CodeConfiguration
  pub instructions : ℕ
  pub enough : IsEnough code instructions (c.nodes (n.who p))
  pub reduces : reduce_code code instructions c (n.who p) i ≡ Some (named_entry naming entry, next)
  pub stands : StandsFor code naming m2 next

pub step-made : (code : Code) (n : Naming) (m : Parts) (c : CodeConfiguration) → StandsFor code n m c → (d : Drawn) → IsFresh d m → (p i : ℕ) (entry : Entry) (m2 : Parts) → Steps code d m p i entry m2 → Made code n m c p i entry m2
step-made code n m c z d fresh p i entry m2 s =
    let k = enough-there code n m c z p s.process s.there in
    go k.0 k.1 (reduce_code code k.0 c (n.who p) i) refl (subst (StepsAlike code n d m p s.process (reduce_code code k.0 c (n.who p) i)) s.changes (step-alike code n m c z d fresh p s.process s.there i k.0 k.1))
  where
    go : (k : ℕ) → IsEnough code k (c.nodes (n.who p)) → (r : Option (Event × CodeConfiguration)) → reduce_code code k c (n.who p) i ≡ r → StepsAlike code n d m p s.process r (Some s.change) → Made code n m c p i entry m2
    go k enough None e a = absurd a
    go k enough (Some r) e a = record {
      naming = a.0;
      grows = a.1;
      next = r.1;
      instructions = k;
      enough = enough;
      reduces = e ∙ ap (λ v. Some (v, r.1)) (a.2 ∙ ap (named_entry a.0) (sym s.named));
      stands = subst (λ x. StandsFor code a.0 x r.1) (sym s.parts) (a.3 s.life s.child s.lives s.bears);
    }

pub runs-stand : (code : Code) (turns : List Turn) (n : Naming) (m : Parts) (c : CodeConfiguration) → StandsFor code n m c → (entries : List Entry) (m2 : Parts) → PartsGo code m turns entries m2 →
    (n2 : Naming) × Grows n n2 m × (e : CodeConfiguration) × CodeGoes code c (named_turns n2 turns) (named_entries n2 entries) e × StandsFor code n2 m2 e
runs-stand code [] n m c z entries m2 g = (
  n,
  record { who = λ i h. refl; end = λ i h. refl },
  c,
  (ap (map (named_entry n)) g.0, refl),
  subst (λ x. StandsFor code n x c) g.1 z,
)
runs-stand code (t ∷ turns) n m c z entries m2 (entry, more, next, e, fresh, s, rest) =
    let a = step-made code n m c z t.drawn fresh t.process t.branch entry next s in
    let b = runs-stand code turns a.naming next a.next a.stands more m2 rest in
    put-together code t turns n m c z entries m2 entry more next e fresh s a b
  where
    put-together : (code : Code) (t : Turn) (turns : List Turn) (n : Naming) (m : Parts) (c : CodeConfiguration) → StandsFor code n m c → (entries : List Entry) (m2 : Parts) (entry : Entry) (more : List Entry) (next : Parts) →
        entries ≡ entry ∷ more → IsFresh t.drawn m → (s : Steps code t.drawn m t.process t.branch entry next) → (a : Made code n m c t.process t.branch entry next) →
        (n2 : Naming) × Grows a.naming n2 next × (e : CodeConfiguration) × CodeGoes code a.next (named_turns n2 turns) (named_entries n2 more) e × StandsFor code n2 m2 e →
        (n2 : Naming) × Grows n n2 m × (e : CodeConfiguration) × CodeGoes code c (named_turns n2 (t ∷ turns)) (named_entries n2 entries) e × StandsFor code n2 m2 e
    put-together code t turns n m c z entries m2 entry more next e fresh s a (n2, g2, d, goes, stands) =
        let there : IsSome (m.process t.process) = rw s.there refl in
        let grows : Grows n n2 m = record {
          who = λ i h. g2.who i (keeps-process code t.drawn m t.process t.branch entry next s i h) ∙ a.grows.who i h;
          end = λ i h. g2.end i (keeps-end code t.drawn m t.process t.branch entry next s i h) ∙ a.grows.end i h;
        } in
        let name : n2.who t.process ≡ n.who t.process = grows.who t.process there in
        let event : named_entry n2 entry ≡ named_entry a.naming entry = same-event a.naming n2 next g2 entry (entry-of-step code n m c z t.drawn fresh t.process t.branch entry next s) in (
          n2,
          grows,
          d,
          (
            a.instructions,
            named_entry n2 entry,
            named_entries n2 more,
            a.next,
            ap (map (named_entry n2)) e,
            subst (λ w. IsEnough code a.instructions (c.nodes w)) (sym name) a.enough,
            ap (λ w. reduce_code code a.instructions c w t.branch) name ∙ (a.reduces ∙ ap (λ v. Some (v, a.next)) (sym event)),
            goes,
          ),
          stands,
        )

-- Where no number has a step

pub still-stands : (code : Code) (n : Naming) (m : Parts) (c : CodeConfiguration) → StandsFor code n m c → (d : Drawn) → IsFresh d m → ((p i : ℕ) → IsStill code d m p i) →
    (who : Who) (i k : ℕ) → IsEnough code k (c.nodes who) → reduce_code code k c who i ≡ None
still-stands code n m c z d fresh still who i k enough = go (reduce_code code k c who i) refl
  where
    none : (r : Option (Event × CodeConfiguration)) (p : ℕ) (q : Proc) → StepsAlike code n d m p q r None → r ≡ None
    none None p q a = refl
    none (Some r) p q a = absurd a

    not-there : (p : ℕ) (o : Option Proc) → m.process p ≡ o → IsSome o → n.who p ≡ who → reduce_code code k c who i ≡ None
    not-there p None e h w = absurd (cc h)
    not-there p (Some q) e h w =
        subst (λ v. reduce_code code k c v i ≡ None) w
        (none (reduce_code code k c (n.who p) i) p q (subst (StepsAlike code n d m p q (reduce_code code k c (n.who p) i)) (still p i q e)
        (step-alike code n m c z d fresh p q e i k (subst (λ v. IsEnough code k (c.nodes v)) (sym w) enough))))

    go : (r : Option (Event × CodeConfiguration)) → reduce_code code k c who i ≡ r → reduce_code code k c who i ≡ None
    go None e = e
    go (Some r) e =
        let gone : c.nodes who ≡ None = z.shows.no_node who (λ p there w. let f : Some r ≡ None = sym e ∙ not-there p (m.process p) refl there w in let x : ⊥ = cc f in x) in
        ap (reduce_state code k c who i) gone
