-- A fork: the configuration behind it, end by end.
use Rattle.std.proofs.Common.{◌≡◌, ◌≢◌, ◌⊎◌, ◌∙◌, inl, inr, refl, sym, ap, subst, ℕ, suc, arith, Bool, not, [], ◌∷◌, ◌++◌, Some, None, if◌then◌else◌}
use Rattle.campl_tree.specs.declared.service.Side.{Side}
use Rattle.campl_tree.specs.Side.{opposite}
use Rattle.campl_tree.specs.Plain.ChanType.{ChanType}
use Rattle.campl_tree.specs.Plain.Process.{Body}
use Rattle.campl_tree.specs.Plain.Decl.{Program}
use Rattle.campl_machine.specs.Names.{Path, Half, First, Second, End, Process, same_end}
use Rattle.campl_machine.specs.Machine.{Move, moved}
use Rattle.campl_machine.proofs.Same.{same_end-refl}
use Rattle.campl_machine.proofs.Ends.{apart, ne, same-end}
use Rattle.campl_types.specs.World.{world_of}
use Rattle.campl_types.specs.Names.{Name, found}
use Rattle.campl_types.specs.Polarity.{Forks, deed}
use Rattle.campl_types.specs.Held.{On, with, without, only}
use Rattle.campl_types.specs.Linear.{AreNew, IsWellFormed}
use Rattle.campl_peel.specs.Trees.{PlugsAreTrees}
use Rattle.campl_peel.specs.Terms.{Doing, those, held_ends}
use Rattle.campl_meaning.specs.States.{Message, EndPair, Ends, Running, State, Runs}
use Rattle.campl_meaning.specs.Bodies.{without_end}
use Rattle.campl_meaning.specs.Wants.{born, child}
use Rattle.campl_meaning.specs.Reductions.{Configuration}
use Rattle.campl_meaning.specs.Views.{view_in}
use Rattle.campl_meaning.specs.Apart.{Place, In, Gone, IsJoined}
use Rattle.campl_meaning.specs.Lawful.{Channels, seen, Lawful}
use Rattle.campl_kept_births.proofs.Bare.{IsForkAt, fork-at}
use Rattle.campl_kept_births.proofs.Newborn.{born-differ, born-idle, not-born}

-- a process in a lawful configuration at a fork
pub record Forking : Type 0 where
  pub source : Program
  pub c : Configuration
  pub l : Lawful source c
  pub p : Path
  pub r : Running
  pub there : c.nodes (Process p) ≡ Some (Runs r)
  pub x : Name
  pub y : Name
  pub z : Name
  pub one : Body
  pub two : Body
  -- the names that go with the first body
  pub keep : Name → Bool
  -- its end and the partner
  pub end : End
  pub other : End
  pub side : Side
  pub u : ChanType
  pub t : ChanType
  pub w : ChanType
  pub x_is : found x r.ends ≡ Some end
  pub joined : c.partner end ≡ Some other
  pub is_on : l.channel end ≡ Some (On side u)
  pub forks : deed (world_of source) side u ≡ Forks t w
  pub new : AreNew x y z (held_ends l.channel r.ends)
  pub trees : PlugsAreTrees one × PlugsAreTrees two
  pub good : IsWellFormed (world_of source) (l.typed p r there).vars (with y (Some (On side t)) (only keep (without x (held_ends l.channel r.ends)))) one
  pub good_too : IsWellFormed (world_of source) (l.typed p r there).vars (with z (Some (On side w)) (only (λ n. not (keep n)) (without x (held_ends l.channel r.ends)))) two

module _ (it : Forking) where
  open it use {source, c, l, p, r, there, x, y, z, one, two, keep, end, other, side, u, t, w, x_is, joined, is_on, forks, new, trees, good, good_too}

  abbrev pub a1 : End
  a1 = born p r 1 First

  abbrev pub a2 : End
  a2 = born p r 1 Second

  abbrev pub b1 : End
  b1 = born p r 2 First

  abbrev pub b2 : End
  b2 = born p r 2 Second

  abbrev pub base : Ends
  base = without_end x r.ends

  abbrev pub drop : Name → Bool
  drop n = not (keep n)

  abbrev pub r2 : Running
  r2 = record { term = Doing one; variables = r.variables; ends = (y, a1) ∷ those keep base; steps = suc r.steps; spent = 0 }

  abbrev pub r3 : Running
  r3 = record { term = Doing two; variables = r.variables; ends = (z, b1) ∷ those drop base; steps = 0; spent = 0 }

  abbrev pub move : Move State Message
  move = record {
    send = Some (end, EndPair a2 b2);
    channels = (a1, a2) ∷ (b1, b2) ∷ [];
    children = (child p r, Runs r3) ∷ [];
    next = Some (Runs r2);
  }

  abbrev pub d : Configuration
  d = moved c (Process p) move

  abbrev pub channel2 : Channels
  channel2 e =
      if same_end end e then None
      else if same_end a1 e then Some (On side t)
      else if same_end a2 e then Some (On (opposite side) t)
      else if same_end b1 e then Some (On side w)
      else if same_end b2 e then Some (On (opposite side) w)
      else l.channel e

  abbrev pub remains : End → Place
  remains e = if same_end end e then Gone else if same_end a2 e then In end else if same_end b2 e then In end else l.place e

  pub at-fork : IsForkAt (world_of source) side u t w
  at-fork = fork-at (world_of source) side u t w forks

  -- The new ends

  pub a1-a2 : a1 ≢ a2
  a1-a2 = born-differ p r 1 1 First Second (inr (λ e. cc e))

  pub a1-b1 : a1 ≢ b1
  a1-b1 = born-differ p r 1 2 First First (inl (λ e. absurd (omega (arith, e))))

  pub a1-b2 : a1 ≢ b2
  a1-b2 = born-differ p r 1 2 First Second (inr (λ e. cc e))

  pub a2-b1 : a2 ≢ b1
  a2-b1 = born-differ p r 1 2 Second First (inr (λ e. cc e))

  pub a2-b2 : a2 ≢ b2
  a2-b2 = born-differ p r 1 2 Second Second (inl (λ e. absurd (omega (arith, e))))

  pub b1-b2 : b1 ≢ b2
  b1-b2 = born-differ p r 2 2 First Second (inr (λ e. cc e))

  -- an end that isn't new
  abbrev pub Off : End → Type 0
  Off e = (a1 ≢ e) × (a2 ≢ e) × (b1 ≢ e) × (b2 ≢ e)

  abbrev One : End → Type 0
  One e = ((e ≡ a1) ⊎ (e ≡ a2)) ⊎ ((e ≡ b1) ⊎ (e ≡ b2))

  pub which : (e : End) → One e ⊎ Off e
  which e = elim (same-end e a1) [
    | inl i ↦ inl (inl (inl i))
    | inr i ↦ elim (same-end e a2) [
      | inl j ↦ inl (inl (inr j))
      | inr j ↦ elim (same-end e b1) [
        | inl k ↦ inl (inr (inl k))
        | inr k ↦ elim (same-end e b2) [
          | inl h ↦ inl (inr (inr h))
          | inr h ↦ inr (ne e a1 i, ne e a2 j, ne e b1 k, ne e b2 h)
        ]
      ]
    ]
  ]

  pub old : (e : End) → IsJoined c e → Off e
  old e j = (
    (λ i. not-born source c l p r there e 1 First j (sym i)),
    (λ i. not-born source c l p r there e 1 Second j (sym i)),
    (λ i. not-born source c l p r there e 2 First j (sym i)),
    (λ i. not-born source c l p r there e 2 Second j (sym i)),
  )

  end-joined : IsJoined c end
  end-joined = (other, joined)

  pub back : c.partner other ≡ Some end
  back = l.apart.placed.paired.back end other joined

  pub end-other : end ≢ other
  end-other i = l.apart.placed.paired.other end (joined ∙ ap Some (sym i))

  off-end : Off end
  off-end = old end end-joined

  pub end-new : (n : ℕ) (h : Half) → end ≢ born p r n h
  end-new n h i = not-born source c l p r there end n h end-joined i

  -- Partners

  pub partner-a1 : d.partner a1 ≡ Some a2
  partner-a1 = rw (same_end-refl a1) refl

  pub partner-a2 : d.partner a2 ≡ Some a1
  partner-a2 = rw (apart a1 a2 a1-a2, same_end-refl a2) refl

  pub partner-b1 : d.partner b1 ≡ Some b2
  partner-b1 = rw (apart a1 b1 a1-b1, same_end-refl b1) refl

  pub partner-b2 : d.partner b2 ≡ Some b1
  partner-b2 = rw (apart a1 b2 a1-b2, same_end-refl b2) refl

  pub partner-old : (e : End) → Off e → d.partner e ≡ c.partner e
  partner-old e o = rw (apart a1 e o.0, apart a2 e o.1, apart b1 e o.2, apart b2 e o.3) refl

  pub partner-one : (e : End) → One e → IsJoined d e
  partner-one e (inl (inl i)) = (a2, subst (λ q. d.partner q ≡ Some a2) (sym i) partner-a1)
  partner-one e (inl (inr i)) = (a1, subst (λ q. d.partner q ≡ Some a1) (sym i) partner-a2)
  partner-one e (inr (inl i)) = (b2, subst (λ q. d.partner q ≡ Some b2) (sym i) partner-b1)
  partner-one e (inr (inr i)) = (b1, subst (λ q. d.partner q ≡ Some b1) (sym i) partner-b2)

  pub wired : (e f : End) → c.partner e ≡ Some f → d.partner e ≡ Some f
  wired e f i = partner-old e (old e (f, i)) ∙ i

  -- Channels

  pub channel-end : channel2 end ≡ None
  channel-end = rw (same_end-refl end) refl

  pub channel-a1 : channel2 a1 ≡ Some (On side t)
  channel-a1 = rw (apart end a1 (end-new 1 First), same_end-refl a1) refl

  pub channel-a2 : channel2 a2 ≡ Some (On (opposite side) t)
  channel-a2 = rw (apart end a2 (end-new 1 Second), apart a1 a2 a1-a2, same_end-refl a2) refl

  pub channel-b1 : channel2 b1 ≡ Some (On side w)
  channel-b1 = rw (apart end b1 (end-new 2 First), apart a1 b1 a1-b1, same_end-refl b1) refl

  pub channel-b2 : channel2 b2 ≡ Some (On (opposite side) w)
  channel-b2 = rw (apart end b2 (end-new 2 Second), apart a1 b2 a1-b2, same_end-refl b2) refl

  pub channel-old : (e : End) → end ≢ e → Off e → channel2 e ≡ l.channel e
  channel-old e n o = rw (apart end e n, apart a1 e o.0, apart a2 e o.1, apart b1 e o.2, apart b2 e o.3) refl

  pub seen-old : (e : End) → end ≢ e → IsJoined c e → seen channel2 e ≡ seen l.channel e
  seen-old e n j = ap view_in (channel-old e n (old e j))

  -- Owed

  pub owed-end : d.owed end ≡ c.owed end ++ (EndPair a2 b2 ∷ [])
  owed-end = rw (same_end-refl end) refl

  pub owed-old : (e : End) → end ≢ e → d.owed e ≡ c.owed e
  owed-old e n = rw (apart end e n) refl

  pub owed-new : (n : ℕ) (h : Half) → d.owed (born p r n h) ≡ []
  owed-new n h = owed-old (born p r n h) (end-new n h) ∙ born-idle source c l p r there n h

  -- The rest

  pub remains-end : remains end ≡ Gone
  remains-end = rw (same_end-refl end) refl

  pub remains-a2 : remains a2 ≡ In end
  remains-a2 = rw (apart end a2 (end-new 1 Second), same_end-refl a2) refl

  pub remains-b2 : remains b2 ≡ In end
  remains-b2 = rw (apart end b2 (end-new 2 Second), apart a2 b2 a2-b2, same_end-refl b2) refl

  pub remains-old : (e : End) → end ≢ e → a2 ≢ e → b2 ≢ e → remains e ≡ l.place e
  remains-old e n m o = rw (apart end e n, apart a2 e m, apart b2 e o) refl
