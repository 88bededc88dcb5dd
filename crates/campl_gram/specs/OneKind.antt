-- Tokens each of which is of one kind.
use Rattle.std.specs.Prelude.{◌≡◌, Bool, true, false}
use Rattle.std.proofs.Common.{refl, sym, ◌∙◌, ap, true≢false}
use Rattle.campl_gram.specs.Grammar.{Terminals}
use Rattle.campl_gram.specs.Tests.{Distinct}

-- a token fits the kind that is its own
abbrev pub by_kind : {T K P : Type 0} → (K → K → Bool) → (T → K) → (T → P) → P → Terminals T K P
by_kind same kind_of place nowhere = record { fits = λ k t. same (kind_of t) k; place = place; nowhere = nowhere }

-- what can't be true is false
never : (b : Bool) → (b ≡ true → ⊥) → b ≡ false
never true h = absurd (h refl)
never false h = refl

-- Where `same` is equality and each kind has a token, kinds are distinct.
pub distinct : {T K P : Type 0} (same : K → K → Bool) (kind_of : T → K) (place : T → P) (nowhere : P)
    → ((k : K) → same k k ≡ true) → ((j k : K) → same j k ≡ true → j ≡ k) → (sample : K → T) → ((k : K) → kind_of (sample k) ≡ k)
    → Distinct (by_kind same kind_of place nowhere) same
distinct same kind_of place nowhere same_refl same_is sample sampled = record {
  alike = λ j k t e f. ap (same (kind_of t)) (sym (same_is j k e)) ∙ f;
  apart = λ j k t e f. never (same (kind_of t) k)
      (λ g. true≢false (sym (same_refl j) ∙ ap (same j) (sym (same_is (kind_of t) j f) ∙ same_is (kind_of t) k g) ∙ e));
  sample = sample;
  sampled = λ k. ap (λ i. same i k) (sampled k) ∙ same_refl k;
}
