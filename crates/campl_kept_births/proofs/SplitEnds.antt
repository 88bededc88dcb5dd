-- A split: the configuration behind it, end by end.
use Rattle.std.proofs.Common.{◌≡◌, ◌≢◌, ◌∙◌, inl, inr, refl, sym, ap, subst, suc, true, [], ◌∷◌, Some, None, if◌then◌else◌}
use Rattle.campl_tree.specs.declared.service.Side.{Side}
use Rattle.campl_tree.specs.Plain.ChanType.{ChanType}
use Rattle.campl_tree.specs.Plain.Process.{Body}
use Rattle.campl_tree.specs.Plain.Decl.{Program}
use Rattle.campl_machine.specs.Names.{Path, End, Process, same_end}
use Rattle.campl_machine.specs.Machine.{looked}
use Rattle.campl_machine.proofs.Same.{same_end-refl}
use Rattle.campl_machine.proofs.Ends.{apart, same-end}
use Rattle.campl_types.specs.World.{world_of}
use Rattle.campl_types.specs.Names.{Name, found}
use Rattle.campl_types.specs.SameType.{bare_chan, IsSameChan}
use Rattle.campl_types.specs.Polarity.{Splits, deed}
use Rattle.campl_types.specs.Held.{On, with, without}
use Rattle.campl_types.specs.Linear.{AreNew, IsWellFormed}
use Rattle.campl_types.specs.Views.{View, Nothing, turned, deed_of, side_of}
use Rattle.campl_types.specs.Views as v
use Rattle.campl_peel.specs.Trees.{PlugsAreTrees}
use Rattle.campl_peel.specs.Terms.{Doing, held_ends}
use Rattle.campl_meaning.specs.States.{EndPair, Running, Runs}
use Rattle.campl_meaning.specs.Bodies.{without_end}
use Rattle.campl_meaning.specs.Reductions.{Configuration}
use Rattle.campl_meaning.specs.Views.{view_in, view_of}
use Rattle.campl_meaning.specs.Apart.{Place, At, In, Gone, IsCarried, IsJoined}
use Rattle.campl_meaning.specs.Lawful.{Channels, seen, IsPairOf, Lawful}
use Rattle.campl_frame.proofs.Held.{own-place}
use Rattle.campl_frame.proofs.Listed.{IsTidy}
use Rattle.campl_kept_births.proofs.Bare.{IsSplitAt, split-at}
use Rattle.campl_types.proofs.Bare.{bare-chan-twice}

-- a process in a lawful configuration at a split, and the pair that it takes
pub record Splitting : Type 0 where
  pub source : Program
  pub c : Configuration
  pub l : Lawful source c
  pub p : Path
  pub r : Running
  pub there : c.nodes (Process p) ≡ Some (Runs r)
  pub x : Name
  pub y : Name
  pub z : Name
  pub rest : Body
  -- its end, the partner, and the pair's ends
  pub end : End
  pub other : End
  pub a : End
  pub o : End
  pub side : Side
  pub u : ChanType
  pub t : ChanType
  pub w : ChanType
  pub x_is : found x r.ends ≡ Some end
  pub joined : c.partner end ≡ Some other
  pub owes : c.owed other ≡ EndPair a o ∷ []
  pub is_on : l.channel end ≡ Some (On side u)
  pub splits : deed (world_of source) side u ≡ Splits t w
  pub new : AreNew x y z (held_ends l.channel r.ends)
  pub trees : PlugsAreTrees rest
  pub good : IsWellFormed (world_of source) (l.typed p r there).vars (with z (Some (On side w)) (with y (Some (On side t)) (without x (held_ends l.channel r.ends)))) rest

module _ (it : Splitting) where
  open it use {source, c, l, p, r, there, x, y, z, rest, end, other, a, o, side, u, t, w, x_is, joined, owes, is_on, splits, new, trees, good}

  abbrev pub r2 : Running
  r2 = record { term = Doing rest; variables = r.variables; ends = (z, o) ∷ ((y, a) ∷ without_end x r.ends); steps = suc r.steps; spent = 0 }

  abbrev pub d : Configuration
  d = looked c (Process p) true other (Runs r2)

  abbrev pub channel2 : Channels
  channel2 e = if same_end end e then None else if same_end a e then Some (On side t) else if same_end o e then Some (On side w) else l.channel e

  abbrev pub remains : End → Place
  remains e = if same_end end e then Gone else l.place e

  pub at-split : IsSplitAt (world_of source) side u t w
  at-split = split-at (world_of source) side u t w splits

  pub back : c.partner other ≡ Some end
  back = l.apart.placed.paired.back end other joined

  pub tidy : IsTidy r.ends
  tidy = record { names = l.apart.placed.names p r there; once = λ m n e f g. l.apart.placed.ends p r m n e there f g }

  pub end-place : l.place end ≡ At (Process p)
  end-place = (own-place source c l p r there x end x_is).0

  pub a-place : (l.place a ≡ In other) × IsJoined c a
  a-place = l.apart.placed.carried other a (subst (λ m. IsCarried m a) (sym owes) (inl refl))

  pub o-place : (l.place o ≡ In other) × IsJoined c o
  o-place = l.apart.placed.carried other o (subst (λ m. IsCarried m o) (sym owes) (inr (inl refl)))

  pub a-o : a ≢ o
  a-o = l.pairs.different other a o [] [] owes

  pub other-gone : (l.place other ≡ Gone) × (l.channel other ≡ None)
  other-gone = l.pairs.given_up other a o [] [] owes

  pub end-a : end ≢ a
  end-a i = let j : l.place a ≡ At (Process p) = subst (λ e. l.place e ≡ At (Process p)) i end-place in cc (j, a-place.0)

  pub end-o : end ≢ o
  end-o i = let j : l.place o ≡ At (Process p) = subst (λ e. l.place e ≡ At (Process p)) i end-place in cc (j, o-place.0)

  pub end-other : end ≢ other
  end-other i = let j : l.place other ≡ At (Process p) = subst (λ e. l.place e ≡ At (Process p)) i end-place in cc (j, other-gone.0)

  other-a : other ≢ a
  other-a i = let j : l.place other ≡ In other = subst (λ e. l.place e ≡ In other) (sym i) a-place.0 in cc (j, other-gone.0)

  other-o : other ≢ o
  other-o i = let j : l.place other ≡ In other = subst (λ e. l.place e ≡ In other) (sym i) o-place.0 in cc (j, other-gone.0)

  -- Channels

  pub channel-end : channel2 end ≡ None
  channel-end = rw (same_end-refl end) refl

  pub channel-a : channel2 a ≡ Some (On side t)
  channel-a = rw (apart end a end-a, same_end-refl a) refl

  pub channel-o : channel2 o ≡ Some (On side w)
  channel-o = rw (apart end o end-o, apart a o a-o, same_end-refl o) refl

  pub channel-old : (e : End) → end ≢ e → a ≢ e → o ≢ e → channel2 e ≡ l.channel e
  channel-old e i j k = rw (apart end e i, apart a e j, apart o e k) refl

  pub pair : IsPairOf (world_of source) l.channel [] end a o
  pair = l.pairs.typed other a o end [] [] owes back

  pub end-view : seen l.channel end ≡ view_of side u
  end-view = ap view_in is_on

  pair-view : pair.view ≡ view_of side u
  pair-view = sym pair.reached ∙ end-view

  pair-side : side_of pair.view ≡ side
  pair-side = ap side_of pair-view ∙ at-split.on

  same-deeds : Splits pair.first pair.second ≡ Splits (bare_chan t) (bare_chan w)
  same-deeds = sym pair.splits ∙ (ap (deed_of (world_of source)) pair-view ∙ at-split.view)

  first-is : pair.first ≡ bare_chan t
  first-is = cc same-deeds

  second-is : pair.second ≡ bare_chan w
  second-is = cc same-deeds

  -- an end that was carried is seen as it was
  seen-as : (e : End) (m n f : ChanType) → l.channel e ≡ Some (On (side_of pair.view) m) → IsSameChan m f → f ≡ bare_chan n → seen l.channel e ≡ view_of side n
  seen-as e m n f i same is =
      let g : bare_chan m ≡ bare_chan n = same ∙ (ap bare_chan is ∙ bare-chan-twice n) in
      ap view_in i ∙ (ap (λ s. view_of s m) pair-side ∙ ap (v.view_of side) g)

  seen-a : seen channel2 a ≡ seen l.channel a
  seen-a = ap view_in channel-a ∙ sym (seen-as a pair.is_first.0 t pair.first pair.is_first.1 pair.is_first.2 first-is)

  seen-o : seen channel2 o ≡ seen l.channel o
  seen-o = ap view_in channel-o ∙ sym (seen-as o pair.is_second.0 w pair.second pair.is_second.1 pair.is_second.2 second-is)

  pub seen-other : (e : End) → end ≢ e → seen channel2 e ≡ seen l.channel e
  seen-other e n = elim (same-end a e) [
    | inl i ↦ subst (λ z. seen channel2 z ≡ seen l.channel z) i seen-a
    | inr i ↦ elim (same-end o e) [
      | inl j ↦ subst (λ z. seen channel2 z ≡ seen l.channel z) j seen-o
      | inr j ↦ ap view_in (channel-old e n i j)
    ]
  ]

  -- Owed

  pub owed-other : d.owed other ≡ []
  owed-other = rw (same_end-refl other, owes) refl

  pub owed-old : (e : End) → other ≢ e → d.owed e ≡ c.owed e
  owed-old e n = rw (apart other e n) refl
