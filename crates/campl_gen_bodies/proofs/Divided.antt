-- Channels divided at a fork.
use Rattle.std.proofs.Common.{◌≡◌, ◌∙◌, refl, ap, ℕ, suc, Bool, true, false, not, List, ◌∷◌}
use Rattle.campl_tree.specs.declared.process.Branch.{Branch, out-Branch}
use Rattle.campl_tree.specs.declared.place.Ident.{Ident}
use Rattle.campl_tree.specs.View.{view_branch, view_body}
use Rattle.campl_tree.proofs.Views.{view_branch-out}
use Rattle.campl_types.specs.Free.{is_free}
use Rattle.campl_types.specs.Names.{Name, is_among, found}
use Rattle.campl_peel.specs.Terms.{those}
use Rattle.campl_code_bodies.specs.Bodies.{Channels, without}
use Rattle.campl_gen_channels.specs.Numbers.{NumbersAlike}
use Rattle.campl_gen_channels.specs.View.{is_kept}
use Rattle.campl_gen_channels.proofs.Alike.{alike-on, alike-more, alike-without, those-without, those-so}
use Rattle.campl_gen_bodies.specs.Commands.{first_held, second_held}

-- of the channels that are kept one is removed, and one comes
pub half-held : (keep : Name → Bool) (x y : Name) (n m : ℕ) (cs c0 c1 c2 c3 : Channels) → NumbersAlike c0 (those keep cs) → NumbersAlike c1 (without x c0) → NumbersAlike c2 ((y, n) ∷ c1) → n ≡ m → c3 ≡ c2
    → NumbersAlike c3 ((y, m) ∷ those keep (without x cs))
half-held keep x y n m cs c0 c1 c2 c3 kept gone came one same =
    record {
      told = λ v.
          ap (found v) same
          ∙ (alike-on c2 ((y, n) ∷ c1) ((y, m) ∷ those keep (without x cs)) came
          (alike-on ((y, n) ∷ c1) ((y, m) ∷ c1) ((y, m) ∷ those keep (without x cs)) (record { told = λ u. ap (λ k. found u ((y, k) ∷ c1)) one })
          (alike-more y m c1 (those keep (without x cs))
          (alike-on c1 (without x c0) (those keep (without x cs)) gone
          (alike-on (without x c0) (without x (those keep cs)) (those keep (without x cs)) (alike-without x c0 (those keep cs) kept) (those-without keep x cs)))))).told v;
    }

pub half-held-now : (keep : Name → Bool) (x y : Name) (n m : ℕ) (cs c0 c1 c2 : Channels) → NumbersAlike c0 (those keep cs) → NumbersAlike c1 (without x c0) → NumbersAlike c2 ((y, n) ∷ c1) → n ≡ m
    → NumbersAlike c2 ((y, m) ∷ those keep (without x cs))
half-held-now keep x y n m cs c0 c1 c2 kept gone came one = half-held keep x y n m cs c0 c1 c2 c2 kept gone came one refl

pub ruleset divided = (half-held, half-held-now)

-- by the free names of the first body

pub first-so : (x : Ident) (left : Branch) (next : ℕ) (cs h : Channels) (names : List Name) → ((n : Name) → is_among n names ≡ is_free n (view_body (out-Branch left).body))
    → NumbersAlike h (((out-Branch left).channel.name, next) ∷ those (is_kept true names) (without x.name cs)) → NumbersAlike h (first_held x (view_branch left) next cs)
first-so x left next cs h names told same =
    rw (view_branch-out left)
    (alike-on h (((out-Branch left).channel.name, next) ∷ those (is_kept true names) (without x.name cs)) (((out-Branch left).channel.name, next) ∷ those (λ c. is_free c (view_body (out-Branch left).body)) (without x.name cs)) same
    (alike-more (out-Branch left).channel.name next (those (is_kept true names) (without x.name cs)) (those (λ c. is_free c (view_body (out-Branch left).body)) (without x.name cs))
    (those-so (is_kept true names) (λ c. is_free c (view_body (out-Branch left).body)) (without x.name cs) told)))

pub second-so : (x : Ident) (left right : Branch) (next : ℕ) (cs h : Channels) (names : List Name) → ((n : Name) → is_among n names ≡ is_free n (view_body (out-Branch left).body))
    → NumbersAlike h (((out-Branch right).channel.name, suc next) ∷ those (is_kept false names) (without x.name cs)) → NumbersAlike h (second_held x (view_branch left) (view_branch right) next cs)
second-so x left right next cs h names told same =
    rw (view_branch-out left, view_branch-out right)
    (alike-on h (((out-Branch right).channel.name, suc next) ∷ those (is_kept false names) (without x.name cs)) (((out-Branch right).channel.name, suc next) ∷ those (λ c. not (is_free c (view_body (out-Branch left).body))) (without x.name cs)) same
    (alike-more (out-Branch right).channel.name (suc next) (those (is_kept false names) (without x.name cs)) (those (λ c. not (is_free c (view_body (out-Branch left).body))) (without x.name cs))
    (those-so (is_kept false names) (λ c. not (is_free c (view_body (out-Branch left).body))) (without x.name cs) (λ c. ap not (told c)))))
