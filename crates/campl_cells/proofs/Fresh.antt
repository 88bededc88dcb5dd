-- What a step bears has numbers that aren't in use, and the names that the machine gives it are new.
use Rattle.std.proofs.Common.{◌≡◌, ◌≢◌, ◌≤◌, ◌⊎◌, inl, inr, ℕ, suc, List, [], ◌∷◌, ◌++◌, Option, Some, None, IsSome, refl, sym, ap, ap₂, subst, ◌∙◌, arith}
use Rattle.std.specs.Option.{IsSomeAnd}
use Rattle.campl_machine.specs.Names.{Birth, Path, End, First, Second, Process}
use Rattle.campl_machine.specs.Machine.{Lies}
use Rattle.campl_code.specs.Instructions.{Code}
use Rattle.campl_code_bodies.specs.Running.{CodeConfiguration}
use Rattle.campl_cells.specs.Parts.{Proc, Parts, near, far, put}
use Rattle.campl_cells.specs.Wants.{Drawn}
use Rattle.campl_cells.specs.Steps.{borne}
use Rattle.campl_cells.specs.Stands.{Naming, StandsFor, Grows, IsFresh, IsBorn, birth}
use Rattle.campl_cells.proofs.Puts.{put-here, put-else, if-here, and-there, is-there, not-free}
use Rattle.campl_cells.proofs.Doing.{NamesDrawn}
use Rattle.campl_cells.proofs.Alike.{FewChannels}

-- a path that ends with a birth
snoc-same : (p q : Path) (a b : Birth) → p ++ a ∷ [] ≡ q ++ b ∷ [] → (p ≡ q) × (a ≡ b)
snoc-same [] [] a b e = (refl, (let h : a ≡ b = cc e in h))
snoc-same [] (y ∷ []) a b e = absurd (let h : ⊥ = cc e in h)
snoc-same [] (y ∷ w ∷ q) a b e = absurd (let h : ⊥ = cc e in h)
snoc-same (x ∷ []) [] a b e = absurd (let h : ⊥ = cc e in h)
snoc-same (x ∷ w ∷ p) [] a b e = absurd (let h : ⊥ = cc e in h)
snoc-same (x ∷ p) (y ∷ q) a b e =
    let t : p ++ a ∷ [] ≡ q ++ b ∷ [] = cc e in
    let h : x ≡ y = cc e in
    let r = snoc-same p q a b t in
    (ap₂ ◌∷◌ h r.0, r.1)

not-root : (p : Path) (a : Birth) → [] ≢ p ++ a ∷ []
not-root [] a e = let h : ⊥ = cc e in h
not-root (x ∷ p) a e = let h : ⊥ = cc e in h

same-path : (a b : Path) → Process a ≡ Process b → a ≡ b
same-path a b e = cc e

-- no process has the child's path, and no end has the name of a new one
module _ (code : Code) (n : Naming) (m : Parts) (c : CodeConfiguration) (z : StandsFor code n m c) (p : ℕ) (q : Proc) (there : m.process p ≡ Some q)
    (path : Path) (named : n.who p ≡ Process path) where
  p-there : IsSome (m.process p)
  p-there = is-there (m.process p) q there

  not-yet : (i step : ℕ) → i ≡ p → IsSomeAnd (m.process i) (λ r. step ≤ r.steps) → step ≡ suc q.steps → ⊥
  not-yet i step e h s =
      let l : step ≤ q.steps = subst (λ o. IsSomeAnd o (λ r. step ≤ r.steps)) (ap m.process e ∙ there) h in
      omega (arith, l, s)

  pub new-child : (i : ℕ) → IsSome (m.process i) → n.who i ≢ Process (path ++ birth (suc q.steps) ∷ [])
  new-child i hi e = go (m.process i) refl hi
    where
      is-born : (r : Proc) → m.process i ≡ Some r → (path ++ birth (suc q.steps) ∷ [] ≡ []) ⊎ IsBorn n m.process r (path ++ birth (suc q.steps) ∷ []) → ⊥
      is-born r o (inl x) = not-root path (birth (suc q.steps)) (sym x)
      is-born r o (inr b) =
          let s = snoc-same path b.parent (birth (suc q.steps)) (birth r.born) b.path_is in
          let parent : r.parent ≡ p = z.named.processes r.parent p (and-there (λ x. r.born ≤ x.steps) (m.process r.parent) b.made) p-there (b.named ∙ (ap Process (sym s.0) ∙ sym named)) in
          not-yet r.parent r.born parent b.made (ap (λ (x : Birth). x.step) (sym s.1))

      go : (o : Option Proc) → m.process i ≡ o → IsSome o → ⊥
      go None o h = cc h
      go (Some r) o h = is-born r o
          (if-here (λ r. (path2 : Path) → n.who i ≡ Process path2 → (path2 ≡ []) ⊎ IsBorn n m.process r path2) (m.process i) r o (z.named.births i) (path ++ birth (suc q.steps) ∷ []) e)

  pub new-end : (x : End) → x.bearer ≡ path → x.step ≡ suc q.steps → (k : ℕ) → IsSome (m.tip k) → n.end k ≢ x
  new-end x xb xs k hk e =
      let b = z.named.bearers k hk in
      let same_bearer : b.number ≡ p = z.named.processes b.number p (and-there (λ r. (n.end k).step ≤ r.steps) (m.process b.number) b.made) p-there
      (b.named ∙ (ap Process (ap (λ (y : End). y.bearer) e ∙ xb) ∙ sym named)) in
      not-yet b.number (n.end k).step same_bearer b.made (ap (λ (y : End). y.step) e ∙ xs)

-- Numbers

pub near-far : (a b : ℕ) → near a ≢ far b
near-far a b e = let f : ⊥ = omega (arith, e) in f

pub near-near : (a b : ℕ) → a ≢ b → near a ≢ near b
near-near a b n e = n (let f : a ≡ b = omega (arith, e) in f)

pub far-far : (a b : ℕ) → a ≢ b → far a ≢ far b
far-far a b n e = n (let f : a ≡ b = omega (arith, e) in f)

pub far-near : (a b : ℕ) → far a ≢ near b
far-near a b e = near-far b a (sym e)

-- an end that is drawn
abbrev pub IsDrawn : Drawn → ℕ → Type 0
IsDrawn d k = (near d.channel ≡ k) ⊎ (far d.channel ≡ k) ⊎ (near d.channel2 ≡ k) ⊎ (far d.channel2 ≡ k)

pub lies-drawn : (d : Drawn) (cs : List ℕ) → FewChannels d cs → (k : ℕ) → Lies (borne cs) k → IsDrawn d k
lies-drawn d [] few k l = absurd l
lies-drawn d (a ∷ []) few k (inl q) = inr (inl (ap far (sym few) ∙ q))
lies-drawn d (a ∷ []) few k (inr (inl q)) = inl (ap near (sym few) ∙ q)
lies-drawn d (a ∷ []) few k (inr (inr l)) = absurd l
lies-drawn d (a ∷ b ∷ []) few k (inl q) = inr (inr (inr (ap far (sym few.1) ∙ q)))
lies-drawn d (a ∷ b ∷ []) few k (inr (inl q)) = inr (inr (inl (ap near (sym few.1) ∙ q)))
lies-drawn d (a ∷ b ∷ []) few k (inr (inr (inl q))) = inr (inl (ap far (sym few.0) ∙ q))
lies-drawn d (a ∷ b ∷ []) few k (inr (inr (inr (inl q)))) = inl (ap near (sym few.0) ∙ q)
lies-drawn d (a ∷ b ∷ []) few k (inr (inr (inr (inr l)))) = absurd l
lies-drawn d (a ∷ b ∷ x ∷ cs) few k l = absurd few

pub drawn-free : (d : Drawn) (m : Parts) → IsFresh d m → (k : ℕ) → IsDrawn d k → m.tip k ≡ None
drawn-free d m f k (inl q) = ap m.tip (sym q) ∙ f.near_end
drawn-free d m f k (inr (inl q)) = ap m.tip (sym q) ∙ f.far_end
drawn-free d m f k (inr (inr (inl q))) = ap m.tip (sym q) ∙ f.near_end2
drawn-free d m f k (inr (inr (inr q))) = ap m.tip (sym q) ∙ f.far_end2

pub drawn-named : (n : Naming) (d : Drawn) (path : Path) (step : ℕ) → NamesDrawn n d path step → (k : ℕ) → IsDrawn d k → ((n.end k).bearer ≡ path) × ((n.end k).step ≡ step)
drawn-named n d path step a k (inl q) = (ap (λ (x : End). x.bearer) (ap n.end (sym q) ∙ a.near1), ap (λ (x : End). x.step) (ap n.end (sym q) ∙ a.near1))
drawn-named n d path step a k (inr (inl q)) = (ap (λ (x : End). x.bearer) (ap n.end (sym q) ∙ a.far1), ap (λ (x : End). x.step) (ap n.end (sym q) ∙ a.far1))
drawn-named n d path step a k (inr (inr (inl q))) = (ap (λ (x : End). x.bearer) (ap n.end (sym q) ∙ a.near2), ap (λ (x : End). x.step) (ap n.end (sym q) ∙ a.near2))
drawn-named n d path step a k (inr (inr (inr q))) = (ap (λ (x : End). x.bearer) (ap n.end (sym q) ∙ a.far2), ap (λ (x : End). x.step) (ap n.end (sym q) ∙ a.far2))

-- A naming that gives what is drawn the machine's names

module _ (n : Naming) (m : Parts) (d : Drawn) (fresh : IsFresh d m) (path : Path) (step : ℕ) where
  abbrev one-near : End
  one-near = record { bearer = path; step = step; channel = 1; half = First }

  abbrev one-far : End
  one-far = record { bearer = path; step = step; channel = 1; half = Second }

  abbrev two-near : End
  two-near = record { bearer = path; step = step; channel = 2; half = First }

  abbrev two-far : End
  two-far = record { bearer = path; step = step; channel = 2; half = Second }

  abbrev f1 : ℕ → End
  f1 = put (near d.channel) one-near n.end

  abbrev f2 : ℕ → End
  f2 = put (far d.channel) one-far f1

  abbrev f3 : ℕ → End
  f3 = put (near d.channel2) two-near f2

  abbrev pub drawn-naming : Naming
  drawn-naming = record { who = put d.child (Process (path ++ birth step ∷ [])) n.who; end = put (far d.channel2) two-far f3 }

  pub drawn-names : NamesDrawn drawn-naming d path step
  drawn-names = record {
    child = put-here d.child (Process (path ++ birth step ∷ [])) n.who;
    near1 = put-else (far d.channel2) (near d.channel) two-far f3 (far-near d.channel2 d.channel)
        ∙ (put-else (near d.channel2) (near d.channel) two-near f2 (near-near d.channel2 d.channel (λ e. fresh.two_channels (sym e)))
        ∙ (put-else (far d.channel) (near d.channel) one-far f1 (far-near d.channel d.channel) ∙ put-here (near d.channel) one-near n.end));
    far1 = put-else (far d.channel2) (far d.channel) two-far f3 (far-far d.channel2 d.channel (λ e. fresh.two_channels (sym e)))
        ∙ (put-else (near d.channel2) (far d.channel) two-near f2 (near-far d.channel2 d.channel) ∙ put-here (far d.channel) one-far f1);
    near2 = put-else (far d.channel2) (near d.channel2) two-far f3 (far-near d.channel2 d.channel2) ∙ put-here (near d.channel2) two-near f2;
    far2 = put-here (far d.channel2) two-far f3;
  }

  pub drawn-grows : Grows n drawn-naming m
  drawn-grows = record {
    who = λ i h. put-else d.child i (Process (path ++ birth step ∷ [])) n.who (not-free m.process d.child i fresh.child h);
    end = λ e h. put-else (far d.channel2) e two-far f3 (not-free m.tip (far d.channel2) e fresh.far_end2 h)
        ∙ (put-else (near d.channel2) e two-near f2 (not-free m.tip (near d.channel2) e fresh.near_end2 h)
        ∙ (put-else (far d.channel) e one-far f1 (not-free m.tip (far d.channel) e fresh.far_end h) ∙ put-else (near d.channel) e one-near n.end (not-free m.tip (near d.channel) e fresh.near_end h)));
  }
