-- What a step bears is new: its channels, their partners and types, and a child.
use Rattle.std.proofs.Common.{◌≡◌, ◌≢◌, ◌⊎◌, ◌∙◌, inl, inr, refl, sym, ap, subst, ℕ, suc, ◌≤◌, arith, true, false, true≢false, List, [], ◌∷◌, ◌++◌, Option, Some, None, if◌then◌else◌}
use Rattle.campl_tree.specs.declared.service.Side.{Side}
use Rattle.campl_tree.specs.declared.service.Side.TheVariants.{Input, Output}
use Rattle.campl_tree.specs.Side.{opposite}
use Rattle.campl_tree.specs.Plain.ChanType.{ChanType}
use Rattle.campl_tree.specs.Plain.Decl.{Program}
use Rattle.campl_machine.specs.Names.{Birth, Path, Half, First, Second, End, Who, Process, same_end, same_who}
use Rattle.campl_machine.specs.Machine.{update, both_ways, performs}
use Rattle.campl_machine.proofs.Same.{same_path-refl, same_end-is, same_who-is, same_who-refl}
use Rattle.campl_machine.proofs.Updates.{split}
use Rattle.campl_machine.proofs.Performs.{does_of}
use Rattle.campl_types.specs.World.{World, world_of}
use Rattle.campl_types.specs.Held.{On}
use Rattle.campl_types.specs.SameType.{bare_chan}
use Rattle.campl_types.specs.Views.{turned}
use Rattle.campl_types.proofs.Turned.{view-turned}
use Rattle.campl_meaning.proofs.Independent.{number-of-child}
use Rattle.campl_meaning.proofs.Named.{named-kept}
use Rattle.campl_meaning.specs.States.{Running, State, Runs}
use Rattle.campl_meaning.specs.Wants.{born, child, half_on}
use Rattle.campl_meaning.specs.Reductions.{Configuration, act_of}
use Rattle.campl_meaning.specs.Views.{view_in, TakesAll}
use Rattle.campl_meaning.specs.Apart.{IsJoined, IsAtMost, IsNamed, number_in_end}
use Rattle.campl_meaning.specs.Lawful.{Channels, seen, Agree, Lawful}
use Rattle.campl_meaning.proofs.Named.{longer}
use Rattle.campl_peel.proofs.Peeling.{none-or}

-- Names

at-most : (o : Option ℕ) (k n : ℕ) → o ≡ Some k → IsAtMost o n → k ≤ n
at-most o k n e h = subst (λ z. IsAtMost z n) e h

-- the number in the path and step of an end that p bears
own-number : (p : Path) (e : End) → e.bearer ≡ p → number_in_end p e ≡ Some e.step
own-number p e b = rw (b, same_path-refl p) refl

-- Halves

pub halves-differ : (s : Side) → half_on s ≢ half_on (opposite s)
halves-differ Output e = cc e
halves-differ Input e = cc e

pub born-differ : (p : Path) (r : Running) (m n : ℕ) (h k : Half) → (m ≢ n) ⊎ (h ≢ k) → born p r m h ≢ born p r n k
born-differ p r m n h k (inl d) e = d (ap (λ (z : End). z.channel) e)
born-differ p r m n h k (inr d) e = d (ap (λ (z : End). z.half) e)

-- the halves of a channel by their sides
pub wire : (p : Path) (r : Running) (n : ℕ) (s : Side) (f : End → Option End) (e : End) →
    update same_end (both_ways ((born p r n First, born p r n Second) ∷ [])) f e
    ≡ (if same_end (born p r n (half_on s)) e then Some (born p r n (half_on (opposite s))) else if same_end (born p r n (half_on (opposite s))) e then Some (born p r n (half_on s)) else f e)
wire p r n Output f e = refl
wire p r n Input f e = elim (split (same_end (born p r n First) e)) [
  | inl i ↦ elim (split (same_end (born p r n Second) e)) [
    | inl j ↦ absurd (let k : born p r n First ≡ born p r n Second = same_end-is _ e i ∙ sym (same_end-is _ e j) in born-differ p r n n First Second (inr (λ z. cc z)) k)
    | inr j ↦ rw (i, j) refl
  ]
  | inr i ↦ elim (split (same_end (born p r n Second) e)) [
    | inl j ↦ rw (i, j) refl
    | inr j ↦ rw (i, j) refl
  ]
]

module _ (source : Program) (c : Configuration) (l : Lawful source c) (p : Path) (r : Running) (there : c.nodes (Process p) ≡ Some (Runs r)) where
  -- what the step bears has no partner yet
  pub fresh : (e : End) → e.bearer ≡ p → e.step ≡ suc r.steps → c.partner e ≡ None
  fresh e b s = elim (none-or (c.partner e)) [
    | inl n ↦ n
    | inr j ↦
        let m : e.step ≤ r.steps = at-most _ _ r.steps (own-number p e b) (l.apart.named.channels p r e there j) in
        absurd (omega (arith, s))
  ]

  pub born-fresh : (n : ℕ) (h : Half) → c.partner (born p r n h) ≡ None
  born-fresh n h = fresh (born p r n h) refl refl

  pub born-idle : (n : ℕ) (h : Half) → c.owed (born p r n h) ≡ []
  born-idle n h = l.apart.placed.idle (born p r n h) (born-fresh n h)

  -- so it is none that was there
  pub not-born : (e : End) (n : ℕ) (h : Half) → IsJoined c e → e ≢ born p r n h
  not-born e n h (f, j) i = let k : c.partner (born p r n h) ≡ Some f = subst (λ z. c.partner z ≡ Some f) i j in cc (k, born-fresh n h)

  -- nor is there a child of that name
  pub no-child-yet : (s : State) → c.nodes (child p r) ≡ Some s → ⊥
  no-child-yet s is =
      let m : suc r.steps ≤ r.steps = at-most _ _ r.steps (number-of-child p (record { step = suc r.steps; place = 1 })) (l.apart.named.paths p (p ++ (record { step = suc r.steps; place = 1 } ∷ [])) r s there is) in
      omega arith

pub child-not : (p : Path) (r : Running) → child p r ≢ Process p
child-not p r e = longer p (record { step = suc r.steps; place = 1 }) (cc e)

-- A child beside its parent

pub family : (f : Who → Option State) (v u : Who) (s t : State) (w : Who) (x : State) → update same_who ((v, Some s) ∷ (u, Some t) ∷ []) f w ≡ Some x →
    ((w ≡ v) × (x ≡ s)) ⊎ (((w ≡ u) × (x ≡ t)) ⊎ ((w ≢ v) × (f w ≡ Some x)))
family f v u s t w x i = elim (split (same_who v w)) [
  | inl a ↦ let j : Some s ≡ Some x = rw a at i in inl (sym (same_who-is v w a), sym (cc j))
  | inr a ↦
      let n : w ≢ v = λ e. true≢false (sym (subst (λ z. same_who v z ≡ true) (sym e) (same_who-refl v)) ∙ a) in
      elim (split (same_who u w)) [
        | inl b ↦ let j : Some t ≡ Some x = rw (a, b) at i in inr (inl (sym (same_who-is u w b), sym (cc j)))
        | inr b ↦ let j : f w ≡ Some x = rw (a, b) at i in inr (inr (n, j))
      ]
]

pub parent-there : (f : Who → Option State) (v : Who) (s : State) (more : List (Who × Option State)) → update same_who ((v, Some s) ∷ more) f v ≡ Some s
parent-there f v s more = rw (same_who-refl v) refl

who-differ : (v w : Who) → w ≢ v → same_who v w ≡ false
who-differ v w n = elim (split (same_who v w)) [ inl i ↦ absurd (n (sym (same_who-is v w i))) | inr i ↦ i ]

pub child-there : (f : Who → Option State) (v u : Who) (s t : State) → u ≢ v → update same_who ((v, Some s) ∷ (u, Some t) ∷ []) f u ≡ Some t
child-there f v u s t n = rw (who-differ v u n, same_who-refl u) refl

pub others-there : (f : Who → Option State) (v u : Who) (s t x : State) (w : Who) → w ≢ v → (f u ≡ None) → f w ≡ Some x → update same_who ((v, Some s) ∷ (u, Some t) ∷ []) f w ≡ Some x
others-there f v u s t x w n m i =
    let k : w ≢ u = λ e. let no : f u ≡ Some x = subst (λ z. f z ≡ Some x) e i in cc (no, m) in
    rw (who-differ v w n, who-differ u w k) i

-- Two new ends agree

pub new-agree : (w : World) (d : Configuration) (channel2 : Channels) (e f : End) (s : Side) (t : ChanType) → channel2 e ≡ Some (On s t) → channel2 f ≡ Some (On (opposite s) t)
    → d.owed e ≡ [] → d.owed f ≡ [] → Agree w d channel2 e f
new-agree w d channel2 e f s t ce cf oe of = record {
  left = seen channel2 e;
  mine = subst (λ o. TakesAll w (seen channel2 e) o (seen channel2 e)) (sym of) refl;
  yours = subst (λ o. TakesAll w (seen channel2 f) o (turned (seen channel2 e))) (sym oe) (ap view_in cf ∙ (view-turned s (bare_chan t) ∙ ap (λ z. turned (view_in z)) (sym ce)));
}

-- Names stay new

pub names-kept : (source : Program) (c a : Configuration) (p : Path) (r : Running) (i : ℕ) → Lawful source c → c.nodes (Process p) ≡ Some (Runs r)
    → performs c (Process p) (act_of (world_of source) (Process p) (Runs r) i) ≡ Some a → IsNamed a
names-kept source c a p r i l there e =
    named-kept (world_of source) c a (Process p) (Runs r) i l.apart.named l.apart.placed.paired there (does_of c (Process p) (act_of (world_of source) (Process p) (Runs r) i) a e)
