-- Ends that are different, and the ends round one identity or two.
use Rattle.std.proofs.Common.{◌≡◌, ◌≢◌, false, ◌⊎◌, inl, inr, sym, ap, ◌∙◌, Option, Some, None, true≢false}
use Rattle.campl_machine.specs.Names.{End, same_end}
use Rattle.campl_machine.proofs.Same.{same_end-is, same_end-refl}
use Rattle.campl_machine.proofs.Updates.{split, differ}

-- different ends fail the test
pub apart : (a b : End) → a ≢ b → same_end a b ≡ false
apart a b ne = differ same_end same_end-is a b ne

-- ends that fail the test are different
pub unlike : (a b : End) → same_end a b ≡ false → a ≢ b
unlike a b i e = true≢false (sym (same_end-refl a) ∙ (ap (same_end a) e ∙ i))

-- to be different goes both ways
pub ne : (a b : End) → a ≢ b → b ≢ a
ne a b n i = n (sym i)

-- two ends are equal or not
pub same-end : (a b : End) → (a ≡ b) ⊎ (a ≢ b)
same-end a b = elim (split (same_end a b)) [ inl i ↦ inl (same_end-is a b i) | inr i ↦ inr (unlike a b i) ]

-- an end is this one, or is another or none
pub same-some : (o : Option End) (v : End) → (o ≡ Some v) ⊎ (o ≢ Some v)
same-some None v = inr (λ i. cc i)
same-some (Some y) v = elim (same-end y v) [ inl i ↦ inl (ap Some i) | inr n ↦ inr (λ i. n (cc i)) ]

-- e is none of the four ends round an identity
pub record Off (x y x2 y2 e : End) : Type 0 where
  pub not_x : x ≢ e
  pub not_y : y ≢ e
  pub not_x2 : x2 ≢ e
  pub not_y2 : y2 ≢ e

-- six ends, all different
pub record Six (x y u y2 v v2 : End) : Type 0 where
  pub xy : x ≢ y
  pub xu : x ≢ u
  pub xy2 : x ≢ y2
  pub xv : x ≢ v
  pub xv2 : x ≢ v2
  pub yu : y ≢ u
  pub yy2 : y ≢ y2
  pub yv : y ≢ v
  pub yv2 : y ≢ v2
  pub uy2 : u ≢ y2
  pub uv : u ≢ v
  pub uv2 : u ≢ v2
  pub y2v : y2 ≢ v
  pub y2v2 : y2 ≢ v2
  pub vv2 : v ≢ v2
