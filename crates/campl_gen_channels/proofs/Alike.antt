-- Lists of channels with the same numbers.
use Rattle.std.proofs.Common.{◌≡◌, ◌∙◌, refl, sym, ap, ℕ, suc, ◌+◌, ◌<◌, Bool, true, false, not, ◌||◌, cond, List, [], ◌∷◌, ◌++◌, Option, Some, None, is_some, if◌then◌else◌, length, drop, slice_get, inl, inr, ◌⊎◌}
use Rattle.std.specs.Map.{lookup}
use Rattle.campl_tree.specs.declared.place.Ident.{Ident}
use Rattle.campl_types.specs.Names.{Name, same_name, found, is_among}
use Rattle.campl_types.proofs.Names.{split-names, same-itself, same-turned}
use Rattle.campl_names.proofs.Sets.{lookup-found, some-among, entry-behind}
use Rattle.campl_peel.specs.Terms.{those}
use Rattle.campl_code.specs.Generated.{or_zero}
use Rattle.campl_code_bodies.specs.Bodies.{Channels, without}
use Rattle.campl_code_bodies.specs.BodyCode.{number, all_numbers}
use Rattle.campl_gen_channels.specs.Numbers.{NumbersAlike}

nothing-either : (k : Bool) → ◌≡◌ {A = Option ℕ} None (if k then None else None)
nothing-either true = refl
nothing-either false = refl

shut : (k : Bool) (o p : Option ℕ) → k ≡ false → (if k then o else None) ≡ (if k then p else None)
shut k o p i = rw i refl

open-shut : (k : Bool) (o p : Option ℕ) → k ≡ true → (if k then None else o) ≡ (if k then None else p)
open-shut k o p i = rw i refl

pub found-those : (keep : Name → Bool) (cs : Channels) (x : Name) → found x (those keep cs) ≡ (if keep x then found x cs else None)
found-those keep [] x = nothing-either (keep x)
found-those keep (c ∷ cs) x = go (split-names x c.0) (keep c.0) refl (found-those keep cs x)
  where
    go : (x ≡ c.0) ⊎ (same_name x c.0 ≡ false) → (k : Bool) → keep c.0 ≡ k → found x (those keep cs) ≡ (if keep x then found x cs else None)
        → found x (if k then c ∷ those keep cs else those keep cs) ≡ (if keep x then (if same_name x c.0 then Some c.1 else found x cs) else None)
    go (inl same) true i later = rw (ap keep same ∙ i, ap (same_name x) (sym same) ∙ same-itself x) refl
    go (inl same) false i later = later ∙ shut (keep x) (found x cs) (if same_name x c.0 then Some c.1 else found x cs) (ap keep same ∙ i)
    go (inr other) true i later = rw other later
    go (inr other) false i later = rw other later

pub found-without : (y : Name) (cs : Channels) (x : Name) → found x (without y cs) ≡ (if same_name y x then None else found x cs)
found-without y [] x = nothing-either (same_name y x)
found-without y (c ∷ cs) x = go (split-names x c.0) (same_name y c.0) refl (found-without y cs x)
  where
    go : (x ≡ c.0) ⊎ (same_name x c.0 ≡ false) → (k : Bool) → same_name y c.0 ≡ k → found x (without y cs) ≡ (if same_name y x then None else found x cs)
        → found x (if k then without y cs else c ∷ without y cs) ≡ (if same_name y x then None else (if same_name x c.0 then Some c.1 else found x cs))
    go (inl same) true i later = later ∙ open-shut (same_name y x) (found x cs) (if same_name x c.0 then Some c.1 else found x cs) (ap (same_name y) same ∙ i)
    go (inl same) false i later = rw (ap (same_name y) same ∙ i, ap (same_name x) (sym same) ∙ same-itself x) refl
    go (inr other) true i later = rw other later
    go (inr other) false i later = rw other later

pub alike-itself : (cs : Channels) → NumbersAlike cs cs
alike-itself cs = record { told = λ x. refl }

pub alike-turned : (cs ds : Channels) → NumbersAlike cs ds → NumbersAlike ds cs
alike-turned cs ds same = record { told = λ x. sym (same.told x) }

pub alike-on : (cs ds es : Channels) → NumbersAlike cs ds → NumbersAlike ds es → NumbersAlike cs es
alike-on cs ds es same later = record { told = λ x. same.told x ∙ later.told x }

pub alike-more : (y : Name) (n : ℕ) (cs ds : Channels) → NumbersAlike cs ds → NumbersAlike ((y, n) ∷ cs) ((y, n) ∷ ds)
alike-more y n cs ds same = record { told = λ x. ap (λ o. if same_name x y then Some n else o) (same.told x) }

pub alike-without : (y : Name) (cs ds : Channels) → NumbersAlike cs ds → NumbersAlike (without y cs) (without y ds)
alike-without y cs ds same = record { told = λ x. found-without y cs x ∙ ap (λ o. if same_name y x then None else o) (same.told x) ∙ sym (found-without y ds x) }

pub alike-those : (keep : Name → Bool) (cs ds : Channels) → NumbersAlike cs ds → NumbersAlike (those keep cs) (those keep ds)
alike-those keep cs ds same = record { told = λ x. found-those keep cs x ∙ ap (λ o. if keep x then o else None) (same.told x) ∙ sym (found-those keep ds x) }

-- by tests that agree
pub those-so : (keep other : Name → Bool) (cs : Channels) → ((x : Name) → keep x ≡ other x) → NumbersAlike (those keep cs) (those other cs)
those-so keep other cs agree = record { told = λ x. found-those keep cs x ∙ ap (λ k. if k then found x cs else None) (agree x) ∙ sym (found-those other cs x) }

pub same-number : (x : Name) (cs ds : Channels) → NumbersAlike cs ds → number x cs ≡ number x ds
same-number x cs ds same = ap or_zero (same.told x)

pub same-numbers : (xs : List Ident) (cs ds : Channels) → NumbersAlike cs ds → all_numbers xs cs ≡ all_numbers xs ds
same-numbers [] cs ds same = refl
same-numbers (x ∷ xs) cs ds same = ap (λ n. n ∷ all_numbers xs cs) (same-number x.name cs ds same) ∙ ap (λ l. number x.name ds ∷ l) (same-numbers xs cs ds same)

-- it doesn't matter which of both comes first
pub those-without : (keep : Name → Bool) (y : Name) (cs : Channels) → NumbersAlike (without y (those keep cs)) (those keep (without y cs))
those-without keep y cs = record {
  told = λ x.
      found-without y (those keep cs) x ∙ ap (λ o. if same_name y x then None else o) (found-those keep cs x) ∙ turn (same_name y x) (keep x) (found x cs)
      ∙ ap (λ o. if keep x then o else None) (sym (found-without y cs x)) ∙ sym (found-those keep (without y cs) x);
}
  where
    turn : (a b : Bool) (o : Option ℕ) → (if a then None else (if b then o else None)) ≡ (if b then (if a then None else o) else None)
    turn true true o = refl
    turn true false o = refl
    turn false true o = refl
    turn false false o = refl
