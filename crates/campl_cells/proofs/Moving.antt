-- A step that waits for nothing: what is born, what is sent, and how the process goes on.
use Rattle.std.proofs.Common.{◌≡◌, ◌≢◌, ◌⊎◌, inl, inr, ℕ, suc, List, [], ◌∷◌, ◌++◌, Option, Some, None, IsSome, IfSome, refl, sym, ap, ap₂, subst, ◌∙◌, if◌then◌else◌, arith, option_map}
use Rattle.campl_machine.specs.Names.{Path, First, Second, End, Who, Process, same_end, same_who}
use Rattle.campl_machine.specs.Machine as machine
use Rattle.campl_machine.specs.Machine.{Lies, update, both_ways, alive}
use Rattle.campl_meaning.specs.States.{Message, Kind}
use Rattle.campl_code.specs.Instructions.{Code}
use Rattle.campl_code_bodies.specs.Commands.{CodeState}
use Rattle.campl_code_bodies.specs.Running.{CodeConfiguration}
use Rattle.campl_cells.specs.Parts.{Mail, Life, Ended, Runs, Serves, Proc, Tip, Parts, near, far, put, written, or_bare, or_else, owner}
use Rattle.campl_cells.specs.Wants.{Drawn, Start, Move}
use Rattle.campl_cells.specs.Steps.{borne, sent, arrives, moved, goes_on, newborn, peopled, after, IsLifeOf, IsChildOf, first_of, second_of, child_number}
use Rattle.campl_cells.specs.Stands.{Naming, StandsFor, IsFresh, IsBorneBy, IsNode, LifeWithin, IsEnd, IsEntryOf, MailWithin}
use Rattle.campl_cells.proofs.Puts.{put-both, put-here, put-else, put-keeps, if-then, is-there, not-free, written-keeps, written-from, written-else, put-there, written-lies}
use Rattle.campl_cells.proofs.Tips.{TipsStand, end-here, end-else, owner-there, ne, mail-wider}
use Rattle.campl_cells.proofs.Channels.{bearing}
use Rattle.campl_cells.proofs.Sending.{sending}
use Rattle.campl_cells.proofs.Nodes.{NodesStand, node-written, who-here, who-else, HasMade, Grown, Bearers, borne-grown, on-grown, on-made, on-births, child-grown, child-births}
use Rattle.campl_cells.proofs.Together.{tips-of, nodes-of, together}
use Rattle.campl_cells.proofs.Alike.{GoesAs, ChildAs, FewChannels, SendWithin, named_send, pairs}
use Rattle.campl_cells.proofs.Doing.{NamesDrawn, wider}
use Rattle.campl_cells.proofs.Fresh.{IsDrawn, new-child, new-end, near-far, near-near, far-far, far-near, lies-drawn, drawn-free, drawn-named}

-- the process has a path, and what it may bear has the machine's names
pub record BirthNames (n : Naming) (d : Drawn) (p steps : ℕ) : Type 0 where
  pub path : Path
  pub named : n.who p ≡ Process path
  pub drawn : NamesDrawn n d path (suc steps)

-- nothing is born, or it has names
abbrev pub Names : Naming → Drawn → (p steps : ℕ) → List ℕ → Option Start → Type 0
Names n d p steps cs child = ((cs ≡ []) × (child ≡ None)) ⊎ BirthNames n d p steps

for-channel : (n : Naming) (d : Drawn) (p steps a : ℕ) (cs : List ℕ) (child : Option Start) → Names n d p steps (a ∷ cs) child → BirthNames n d p steps
for-channel n d p steps a cs child (inl e) = absurd (cc e.0)
for-channel n d p steps a cs child (inr b) = b

for-child : (n : Naming) (d : Drawn) (p steps : ℕ) (cs : List ℕ) (s : Start) → Names n d p steps cs (Some s) → BirthNames n d p steps
for-child n d p steps cs s (inl e) = absurd (cc e.1)
for-child n d p steps cs s (inr b) = b

pub life-wider : (P Q : ℕ → Type 0) → ((e : ℕ) → P e → Q e) → (life : Life) → LifeWithin P life → LifeWithin Q life
life-wider P Q f Ended h = tt
life-wider P Q f (Runs held) h = λ k. wider P Q f (held.ends k) (h k)
life-wider P Q f (Serves e serving) h = f e h

channels-apart : (x y : End) → x.channel ≡ 1 → y.channel ≡ 2 → x ≢ y
channels-apart x y a b e = let f : ⊥ = omega (arith, a, b, ap (λ (x : End). x.channel) e) in f

halves-apart : (x y : End) → x.half ≡ First → y.half ≡ Second → x ≢ y
halves-apart x y a b e = let f : First ≡ Second = sym a ∙ (ap (λ (x : End). x.half) e ∙ b) in cc f

-- What an entry names

message-within : (Old There New : ℕ → Type 0) → ((e : ℕ) → There e → New e) → (o : Option (ℕ × Mail)) → SendWithin Old There o → IfSome (option_map (λ s. s.1) o) (MailWithin New)
message-within Old There New f None h = tt
message-within Old There New f (Some s) h = mail-wider There New f s.1 h.1

lies-behind : {A : Type 0} (es fs : List (ℕ × A)) (k : ℕ) → Lies fs k → Lies (es ++ fs) k
lies-behind [] fs k l = l
lies-behind (e ∷ es) fs k l = inr (lies-behind es fs k l)

lies-before : {A : Type 0} (es fs : List (ℕ × A)) (k : ℕ) → Lies es k → Lies (es ++ fs) k
lies-before [] fs k l = absurd l
lies-before (e ∷ es) fs k (inl q) = inl q
lies-before (e ∷ es) fs k (inr l) = inr (lies-before es fs k l)

first-born : (cs : List ℕ) → IfSome (first_of cs) (λ c. Lies (borne cs) (near c) × Lies (borne cs) (far c))
first-born [] = tt
first-born (c ∷ cs) = (lies-behind (borne cs) _ (near c) (inr (inl refl)), lies-behind (borne cs) _ (far c) (inl refl))

second-born : (cs : List ℕ) → IfSome (second_of cs) (λ c. Lies (borne cs) (near c) × Lies (borne cs) (far c))
second-born [] = tt
second-born (c ∷ cs) = if-then (λ c. Lies (borne cs) (near c) × Lies (borne cs) (far c)) (λ b. Lies (borne (c ∷ cs)) (near b) × Lies (borne (c ∷ cs)) (far b)) (first_of cs)
    (λ b e h. (lies-before (borne cs) _ (near b) h.0, lies-before (borne cs) _ (far b) h.1)) (first-born cs)

module _ (code : Code) (n : Naming) (m : Parts) (c : CodeConfiguration) (z : StandsFor code n m c) (d : Drawn) (fresh : IsFresh d m)
    (p : ℕ) (q : Proc) (there : m.process p ≡ Some q) where
  -- Channels

  module _ (b : BirthNames n d p q.steps) where
    abbrev N1 : End
    N1 = n.end (near d.channel)

    abbrev F1 : End
    F1 = n.end (far d.channel)

    abbrev N2 : End
    N2 = n.end (near d.channel2)

    abbrev F2 : End
    F2 = n.end (far d.channel2)

    new : (e : ℕ) → IsDrawn d e → (k : ℕ) → IsSome (m.tip k) → n.end k ≢ n.end e
    new e i =
        let a = drawn-named n d b.path (suc q.steps) b.drawn e i in
        new-end code n m c z p q there b.path b.named (n.end e) a.0 a.1

    n1f1 : N1 ≢ F1
    n1f1 = halves-apart N1 F1 (ap (λ (x : End). x.half) b.drawn.near1) (ap (λ (x : End). x.half) b.drawn.far1)

    n2f2 : N2 ≢ F2
    n2f2 = halves-apart N2 F2 (ap (λ (x : End). x.half) b.drawn.near2) (ap (λ (x : End). x.half) b.drawn.far2)

    n1n2 : N1 ≢ N2
    n1n2 = channels-apart N1 N2 (ap (λ (x : End). x.channel) b.drawn.near1) (ap (λ (x : End). x.channel) b.drawn.near2)

    n1f2 : N1 ≢ F2
    n1f2 = channels-apart N1 F2 (ap (λ (x : End). x.channel) b.drawn.near1) (ap (λ (x : End). x.channel) b.drawn.far2)

    f1n2 : F1 ≢ N2
    f1n2 = channels-apart F1 N2 (ap (λ (x : End). x.channel) b.drawn.far1) (ap (λ (x : End). x.channel) b.drawn.near2)

    f1f2 : F1 ≢ F2
    f1f2 = channels-apart F1 F2 (ap (λ (x : End). x.channel) b.drawn.far1) (ap (λ (x : End). x.channel) b.drawn.far2)

    abbrev tip1 : ℕ → Option Tip
    tip1 = written (borne (d.channel ∷ [])) m.tip

    abbrev one : List (End × Option End)
    one = (N1, Some F1) ∷ (F1, Some N1) ∷ []

    abbrev two : List (End × Option End)
    two = (N2, Some F2) ∷ (F2, Some N2) ∷ []

    abbrev both : List (End × Option End)
    both = (N1, Some F1) ∷ (F1, Some N1) ∷ (N2, Some F2) ∷ (F2, Some N2) ∷ []

    tips-one : TipsStand n.end tip1 (update same_end one c.partner) c.owed
    tips-one = bearing n.end m.tip c.partner (update same_end one c.partner) c.owed (tips-of code n m c z) (near d.channel) (far d.channel) fresh.near_end fresh.far_end (near-far d.channel d.channel)
        (new (near d.channel) (inl refl)) (new (far d.channel) (inr (inl refl))) n1f1
        (end-here N1 N1 (Some F1) ((F1, Some N1) ∷ []) c.partner refl)
        (end-else N1 F1 (Some F1) ((F1, Some N1) ∷ []) c.partner n1f1 ∙ end-here F1 F1 (Some N1) [] c.partner refl)
        (λ e x y. end-else N1 e (Some F1) ((F1, Some N1) ∷ []) c.partner x ∙ end-else F1 e (Some N1) [] c.partner y)

    -- the second channel's ends aren't those of the first
    not-first : (k : ℕ) → near d.channel ≢ k → far d.channel ≢ k → Lies (borne (d.channel ∷ [])) k → ⊥
    not-first k a x (inl e) = x e
    not-first k a x (inr (inl e)) = a e
    not-first k a x (inr (inr l)) = l

    still-new : (e : ℕ) → IsDrawn d e → N1 ≢ n.end e → F1 ≢ n.end e → (k : ℕ) → IsSome (tip1 k) → n.end k ≢ n.end e
    still-new e i x y k h = elim (written-from (borne (d.channel ∷ [])) m.tip k h) [
      | inl old ↦ new e i k old
      | inr l ↦ elim l [
        | inl far1 ↦ λ s. y (ap n.end far1 ∙ s)
        | inr l ↦ elim l [ inl near1 ↦ λ s. x (ap n.end near1 ∙ s) | inr l ↦ absurd l ]
      ]
    ]

    tips-two : TipsStand n.end (written (borne (d.channel ∷ d.channel2 ∷ [])) m.tip) (update same_end both c.partner) c.owed
    tips-two = bearing n.end tip1 (update same_end one c.partner) (update same_end both c.partner) c.owed tips-one (near d.channel2) (far d.channel2)
        (written-else (borne (d.channel ∷ [])) m.tip (near d.channel2) (not-first (near d.channel2) (near-near d.channel d.channel2 fresh.two_channels) (far-near d.channel d.channel2)) ∙ fresh.near_end2)
        (written-else (borne (d.channel ∷ [])) m.tip (far d.channel2) (not-first (far d.channel2) (near-far d.channel d.channel2) (far-far d.channel d.channel2 fresh.two_channels)) ∙ fresh.far_end2)
        (near-far d.channel2 d.channel2)
        (still-new (near d.channel2) (inr (inr (inl refl))) n1n2 f1n2) (still-new (far d.channel2) (inr (inr (inr refl))) n1f2 f1f2) n2f2
        (end-else N1 N2 (Some F1) ((F1, Some N1) ∷ two) c.partner n1n2 ∙ (end-else F1 N2 (Some N1) two c.partner f1n2 ∙ end-here N2 N2 (Some F2) ((F2, Some N2) ∷ []) c.partner refl))
        (end-else N1 F2 (Some F1) ((F1, Some N1) ∷ two) c.partner n1f2 ∙ (end-else F1 F2 (Some N1) two c.partner f1f2
        ∙ (end-else N2 F2 (Some F2) ((F2, Some N2) ∷ []) c.partner n2f2 ∙ end-here F2 F2 (Some N2) [] c.partner refl)))
        (λ e x y. ap (λ (v : Option End). if same_end N1 e then Some F1 else (if same_end F1 e then Some N1 else v))
        (end-else N2 e (Some F2) ((F2, Some N2) ∷ []) c.partner x ∙ end-else F2 e (Some N2) [] c.partner y))

  abbrev TipsBorne : List ℕ → Type 0
  TipsBorne cs = TipsStand n.end (written (borne cs) m.tip) (update same_end (both_ways (pairs n.end cs)) c.partner) c.owed

  tips-borne : (cs : List ℕ) (child : Option Start) → FewChannels d cs → Names n d p q.steps cs child → TipsBorne cs
  tips-borne [] child few names = tips-of code n m c z
  tips-borne (a ∷ []) child few names = subst (λ a. TipsBorne (a ∷ [])) (sym few) (tips-one (for-channel n d p q.steps a [] child names))
  tips-borne (a ∷ b ∷ []) child few names =
      subst (λ a. TipsBorne (a ∷ b ∷ [])) (sym few.0) (subst (λ b. TipsBorne (d.channel ∷ b ∷ [])) (sym few.1) (tips-two (for-channel n d p q.steps a (b ∷ []) child names)))
  tips-borne (a ∷ b ∷ x ∷ cs) child few names = absurd few

  module _ (cs : List ℕ) (few : FewChannels d cs) (partner : End → Option End) (tips : TipsStand n.end (written (borne cs) m.tip) partner c.owed) where
    abbrev tip2 : ℕ → Option Tip
    tip2 = written (borne cs) m.tip

    still : (k : ℕ) → IsSome (m.tip k) → m.tip k ≡ tip2 k
    still k h = sym (written-else (borne cs) m.tip k (λ l. not-free m.tip k k (drawn-free d m fresh k (lies-drawn d cs few k l)) h refl))

    -- a message on an old end goes where it went
    same-sent : (s : ℕ × Mail) → IsSome (m.tip s.0) → sent (Some s) m.tip ≡ sent (Some s) tip2
    same-sent s h =
        let o : owner m.tip s.0 ≡ owner tip2 s.0 = ap (λ t. or_else (or_bare t).peer s.0) (still s.0 h) in
        ap₂ (λ (k : ℕ) (t : Option Tip). (k, arrives s.1 (or_bare t)) ∷ []) o
        (still (owner m.tip s.0) (owner-there n.end m.tip c.partner c.owed (tips-of code n m c z) s.0 h) ∙ ap tip2 o)

    tips-sent : (o : Option (ℕ × Mail)) → SendWithin (IsEnd m.tip) (IsEnd tip2) o → TipsStand n.end (written (sent o m.tip ++ borne cs) m.tip) partner (machine.sent (named_send n.end o) c.owed)
    tips-sent None h = tips
    tips-sent (Some s) h = subst (λ es. TipsStand n.end (written (es ++ borne cs) m.tip) partner (machine.sent (named_send n.end (Some s)) c.owed)) (sym (same-sent s h.0))
        (sending n.end tip2 partner c.owed tips s.0 (subst IsSome (still s.0 h.0) h.0) s.1 h.1)

    sent-keeps : (o : Option (ℕ × Mail)) (k : ℕ) → IsSome (tip2 k) → IsSome (written (sent o m.tip ++ borne cs) m.tip k)
    sent-keeps None k h = h
    sent-keeps (Some s) k h = put-keeps (owner m.tip s.0) (arrives s.1 (or_bare (m.tip (owner m.tip s.0)))) tip2 k h

    sent-from : (o : Option (ℕ × Mail)) → SendWithin (IsEnd m.tip) (IsEnd tip2) o → (k : ℕ) → IsSome (written (sent o m.tip ++ borne cs) m.tip k) → IsSome (m.tip k) ⊎ Lies (borne cs) k
    sent-from None w k h = written-from (borne cs) m.tip k h
    sent-from (Some s) w k h = elim (written-from (sent (Some s) m.tip ++ borne cs) m.tip k h) [
      | inl old ↦ inl old
      | inr l ↦ elim l [
        | inl e ↦ inl (subst (λ k. IsSome (m.tip k)) e (owner-there n.end m.tip c.partner c.owed (tips-of code n m c z) s.0 w.0))
        | inr l ↦ inr l
      ]
    ]

  -- Processes

  p-there : IsSome (m.process p)
  p-there = is-there (m.process p) q there

  pub node-on : (life : Life) (o : Option CodeState) → IsNode code n.end (n.who p) (suc q.steps) life o → NodesStand code n (put p (Some (goes_on q life)) m.process) (update same_who ((n.who p, o) ∷ []) c.nodes)
  node-on life o is = node-written code n m.process c.nodes (update same_who ((n.who p, o) ∷ []) c.nodes) (nodes-of code n m c z) p (goes_on q life)
      (λ i nk h e. nk (z.named.processes p i p-there h e))
      (subst (λ x. IsNode code n.end (n.who p) (suc q.steps) life x) (sym (who-here (n.who p) (n.who p) o [] c.nodes refl)) is)
      (λ w x. who-else (n.who p) w o [] c.nodes x)

  pub held-on : (There : ℕ → Type 0) (life : Life) → ((e : ℕ) → IsSome (m.tip e) → There e) → LifeWithin There life → (i : ℕ) → IfSome (put p (Some (goes_on q life)) m.process i) (λ q. LifeWithin There q.life)
  held-on There life keeps h i = put-both (λ i o. IfSome o (λ q. LifeWithin There q.life)) p (Some (goes_on q life)) m.process i h
      (λ nk. if-then (λ q. LifeWithin (IsEnd m.tip) q.life) (λ q. LifeWithin There q.life) (m.process i) (λ r e w. life-wider (IsEnd m.tip) There keeps r.life w) (z.wired.held i))

  module _ (life : Life) (o : Option CodeState) (is : IsNode code n.end (n.who p) (suc q.steps) life o) (b : BirthNames n d p q.steps)
      (child : Life) (who : Who) (x : CodeState) (same : who ≡ n.who d.child) (is-child : IsNode code n.end who 0 child (Some x)) where
    abbrev process1 : ℕ → Option Proc
    process1 = put p (Some (goes_on q life)) m.process

    abbrev nodes1 : Who → Option CodeState
    nodes1 = update same_who ((n.who p, o) ∷ []) c.nodes

    abbrev nodes2 : Who → Option CodeState
    nodes2 = update same_who ((n.who p, o) ∷ (who, Some x) ∷ []) c.nodes

    child-free : process1 d.child ≡ None
    child-free = put-else p d.child (Some (goes_on q life)) m.process (ne d.child p (not-free m.process d.child p fresh.child p-there)) ∙ fresh.child

    new-name : (i : ℕ) → IsSome (process1 i) → who ≢ n.who i
    new-name i h e = new-child code n m c z p q there b.path b.named i (before i h) (sym e ∙ (same ∙ b.drawn.child))
      where
        before : (i : ℕ) → IsSome (process1 i) → IsSome (m.process i)
        before i h = put-both (λ i o. IsSome o → IsSome (m.process i)) p (Some (goes_on q life)) m.process i (λ h. p-there) (λ nk h. h) h

    p-new : n.who p ≢ who
    p-new e = new-name p (subst IsSome (sym (put-here p (Some (goes_on q life)) m.process)) refl) (sym e)

    node-child : NodesStand code n (put d.child (Some (newborn p q child)) process1) nodes2
    node-child = node-written code n process1 nodes1 nodes2 (node-on life o is) d.child (newborn p q child)
        (λ i nk h e. new-name i h (same ∙ e))
        (subst (λ w. IsNode code n.end w 0 child (nodes2 w)) same
        (subst (λ y. IsNode code n.end who 0 child y) (sym (who-else (n.who p) who o ((who, Some x) ∷ []) c.nodes p-new ∙ who-here who who (Some x) [] c.nodes refl)) is-child))
        (λ w k. ap (λ (v : Option CodeState). if same_who (n.who p) w then o else v) (who-else who w (Some x) [] c.nodes (λ e. k (sym same ∙ e))))

  -- All together

  module _ (kind : Kind) (end : Option ℕ) (v : Move) (names : Names n d p q.steps v.channels v.child) (few : FewChannels d v.channels)
      (within : SendWithin (IsEnd m.tip) (IsEnd (written (borne v.channels) m.tip)) v.send) where
    abbrev tip3 : ℕ → Option Tip
    tip3 = written (sent v.send m.tip ++ borne v.channels) m.tip

    abbrev There : ℕ → Type 0
    There = IsEnd (written (borne v.channels) m.tip)

    abbrev partner3 : End → Option End
    partner3 = update same_end (both_ways (pairs n.end v.channels)) c.partner

    abbrev owed3 : End → List Message
    owed3 = machine.sent (named_send n.end v.send) c.owed

    tips3 : TipsStand n.end tip3 partner3 owed3
    tips3 = tips-sent v.channels few partner3 (tips-borne v.channels v.child few names) v.send within

    keeps3 : (k : ℕ) → There k → IsSome (tip3 k)
    keeps3 = sent-keeps v.channels few partner3 (tips-borne v.channels v.child few names) v.send

    old3 : (k : ℕ) → IsSome (m.tip k) → IsSome (tip3 k)
    old3 k h = keeps3 k (written-keeps (borne v.channels) m.tip k h)

    bearers3 : (process : ℕ → Option Proc) → Grown m.process process → HasMade process p (suc q.steps) → Bearers n process tip3
    bearers3 process g made e h = elim (sent-from v.channels few partner3 (tips-borne v.channels v.child few names) v.send within e h) [
      | inl old ↦ borne-grown n m.process process g (n.end e) (z.named.bearers e old)
      | inr l ↦ go v.channels few names l
    ]
      where
        of-names : BirthNames n d p q.steps → IsDrawn d e → IsBorneBy n process (n.end e)
        of-names b i =
            let a = drawn-named n d b.path (suc q.steps) b.drawn e i in
            record { number = p; named = b.named ∙ ap Process (sym a.0); made = subst (λ s. HasMade process p s) (sym a.1) made }

        go : (cs : List ℕ) → FewChannels d cs → Names n d p q.steps cs v.child → Lies (borne cs) e → IsBorneBy n process (n.end e)
        go [] few names l = absurd l
        go (a ∷ cs) few names l = of-names (for-channel n d p q.steps a cs v.child names) (lies-drawn d (a ∷ cs) few e l)

    pub moves-entry : IfSome end (IsEnd m.tip) → (life : Life) (child : Option Life) → IsChildOf code v.child child →
        IsEntryOf (after d m p q (moved m.tip d p kind end v) life child) (moved m.tip d p kind end v).entry
    moves-entry h life child born = record {
      process = written-keeps (peopled d p q life child) m.process p p-there;
      end = wider (IsEnd m.tip) (IsEnd tip3) old3 end h;
      second = tt;
      message = message-within (IsEnd m.tip) There (IsEnd tip3) keeps3 v.send within;
      child = go v.child child born;
      channel = new-ends (first_of v.channels) (first-born v.channels);
      channel2 = new-ends (second_of v.channels) (second-born v.channels);
    }
      where
        go : (s : Option Start) (child : Option Life) → IsChildOf code s child → IfSome (child_number d s) (λ i. IsSome (written (peopled d p q life child) m.process i))
        go None child born = tt
        go (Some s) (Some l) born = put-there d.child (newborn p q l) (put p (Some (goes_on q life)) m.process)
        go (Some s) None born = absurd born

        new-ends : (o : Option ℕ) → IfSome o (λ c. Lies (borne v.channels) (near c) × Lies (borne v.channels) (far c)) → IfSome o (λ c. IsEnd tip3 (near c) × IsEnd tip3 (far c))
        new-ends o = if-then (λ c. Lies (borne v.channels) (near c) × Lies (borne v.channels) (far c)) (λ c. IsEnd tip3 (near c) × IsEnd tip3 (far c)) o
            (λ c e h. (keeps3 (near c) (written-lies (borne v.channels) m.tip (near c) h.0), keeps3 (far c) (written-lies (borne v.channels) m.tip (far c) h.1)))

    module _ (life : Life) (o : Option CodeState) (goes : IsNode code n.end (n.who p) (suc q.steps) life o × LifeWithin There life) where
      abbrev on : ℕ → Option Proc
      on = put p (Some (goes_on q life)) m.process

      held3 : (i : ℕ) → IfSome (on i) (λ q. LifeWithin (IsEnd tip3) q.life)
      held3 = held-on (IsEnd tip3) life old3 (life-wider There (IsEnd tip3) keeps3 life goes.1)

      alone : StandsFor code n (record { process = on; tip = tip3 }) (record { nodes = update same_who ((n.who p, o) ∷ []) c.nodes; partner = partner3; owed = owed3 })
      alone = together code n on tip3 (update same_who ((n.who p, o) ∷ []) c.nodes) partner3 owed3 (node-on life o goes.0) tips3
          (on-births n m.process p q there life z.named.births)
          (bearers3 on (on-grown n m.process p q there life) (on-made n m.process p q there life))
          held3

      with-child : (b : BirthNames n d p q.steps) (child : Life) (who : Who) (x : CodeState) → who ≡ n.who d.child → IsNode code n.end who 0 child (Some x) × LifeWithin There child →
          StandsFor code n (record { process = put d.child (Some (newborn p q child)) on; tip = tip3 }) (record { nodes = update same_who ((n.who p, o) ∷ (who, Some x) ∷ []) c.nodes; partner = partner3; owed = owed3 })
      with-child b child who x same is =
          let free = child-free life o goes.0 b child who x same is.0 in
          let made = on-made n m.process p q there life in
          together code n (put d.child (Some (newborn p q child)) on) tip3 (update same_who ((n.who p, o) ∷ (who, Some x) ∷ []) c.nodes) partner3 owed3
          (node-child life o goes.0 b child who x same is.0) tips3
          (child-births n on p d.child (suc q.steps) b.path free made b.named b.drawn.child (newborn p q child) refl refl (on-births n m.process p q there life z.named.births))
          (bearers3 (put d.child (Some (newborn p q child)) on)
          (λ i s h. child-grown n on p d.child (suc q.steps) b.path free made b.named b.drawn.child (newborn p q child) refl refl i s (on-grown n m.process p q there life i s h))
          (child-grown n on p d.child (suc q.steps) b.path free made b.named b.drawn.child (newborn p q child) refl refl p (suc q.steps) made))
          (λ i. put-both (λ i o. IfSome o (λ q. LifeWithin (IsEnd tip3) q.life)) d.child (Some (newborn p q child)) on i (life-wider There (IsEnd tip3) keeps3 child is.1) (λ nk. held3 i))

    -- a move leads to parts that stand for what the machine's move gives
    pub moves-stand : (state : Option CodeState) (children : List (Who × CodeState)) → GoesAs code n There (n.who p) (suc q.steps) v.next state → ChildAs code n There d v.child children →
        (life : Life) (child : Option Life) → IsLifeOf code v.next life → IsChildOf code v.child child →
        StandsFor code n (after d m p q (moved m.tip d p kind end v) life child)
        (machine.moved c (n.who p) (record { send = named_send n.end v.send; channels = pairs n.end v.channels; children = children; next = state }))
    moves-stand state children goes bears life child is born = go v.child names children bears child born
      where
        go : (s : Option Start) → Names n d p q.steps v.channels s → (children : List (Who × CodeState)) → ChildAs code n There d s children → (child : Option Life) → IsChildOf code s child →
            StandsFor code n (record { process = written (peopled d p q life child) m.process; tip = tip3 }) (record { nodes = update same_who ((n.who p, state) ∷ alive children) c.nodes; partner = partner3; owed = owed3 })
        go None names [] bears None born = alone life state (goes life is)
        go None names (x ∷ xs) bears None born = absurd bears
        go None names xs bears (Some l) born = absurd born
        go (Some s) names (x ∷ []) bears (Some l) born = with-child life state (goes life is) (for-child n d p q.steps v.channels s names) l x.0 x.1 bears.0 (bears.1 l born)
        go (Some s) names [] bears (Some l) born = absurd bears
        go (Some s) names (x ∷ y ∷ xs) bears (Some l) born = absurd bears
        go (Some s) names xs bears None born = absurd born
