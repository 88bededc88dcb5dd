-- The nodes that are there and the ends that have a partner are finitely many, at the start and after each step.
use Rattle.std.proofs.Common.{◌≡◌, Bool, true, List, [], ◌∷◌, ◌++◌, inl, inr, sym, ap, ◌∙◌, map, Option, Some, None}
use Rattle.campl_machine.specs.Names.{End, Who, same_end, same_who}
use Rattle.campl_machine.specs.Machine.{Act, Moves, Looks, Links, Stands, Breaks, Does, update, both_ways, alive, rewired}
use Rattle.campl_machine.specs.Progress.{Within}
use Rattle.campl_machine.proofs.Same.{same_end-is, same_who-is}
use Rattle.campl_machine.proofs.Updates.{split}
use Rattle.campl_tree.specs.Plain.Decl.{Program}
use Rattle.campl_types.specs.World.{World}
use Rattle.campl_service.specs.Scripts.{Lines}
use Rattle.campl_meaning.specs.States.{Message, State}
use Rattle.campl_meaning.specs.Reductions.{Configuration}
use Rattle.campl_meaning.specs.Start.{start}
use Rattle.campl_meaning.specs.Apart.{IsJoined}
use Rattle.campl_meaning.specs.Lawful.{Lawful}

-- these fields of `Lawful`
pub record IsFinite (c : Configuration) : Type 0 where
  pub nodes : List Who
  pub listed : (who : Who) (s : State) → c.nodes who ≡ Some s → Within nodes who
  pub ends : List End
  pub joined : (e : End) → IsJoined c e → Within ends e

abbrev firsts : {K V : Type 0} → List (K × V) → List K
firsts {K} {V} = map (λ (u : K × V). u.0)

-- what is there after updates was updated, or there before
updated : {K V : Type 0} (same : K → K → Bool) → ((a b : K) → same a b ≡ true → a ≡ b) → (f : K → Option V) (xs : List K) → ((k : K) (v : V) → f k ≡ Some v → Within xs k) →
    (ups : List (K × Option V)) (k : K) (v : V) → update same ups f k ≡ Some v → Within (firsts ups ++ xs) k
updated same is f xs h [] k v i = h k v i
updated same is f xs h (u ∷ ups) k v i = elim (split (same u.0 k)) [
  | inl e ↦ inl (sym (is u.0 k e))
  | inr e ↦ inr (updated same is f xs h ups k v (rw e at i))
]

module _ (c : Configuration) (n : IsFinite c) where
  partners : (ups : List (End × Option End)) (f : End → Option End) → f ≡ update same_end ups c.partner → (e : End) → ((z : End) × (f e ≡ Some z)) → Within (firsts ups ++ n.ends) e
  partners ups f same e (z, i) = updated same_end same_end-is c.partner n.ends (λ k v j. n.joined k (v, j)) ups e z (sym (ap (λ (g : End → Option End). g e) same) ∙ i)

  states : (ups : List (Who × Option State)) (f : Who → Option State) → f ≡ update same_who ups c.nodes → (who : Who) (s : State) → f who ≡ Some s → Within (firsts ups ++ n.nodes) who
  states ups f same who s i = updated same_who same_who-is c.nodes n.nodes n.listed ups who s (sym (ap (λ (g : Who → Option State). g who) same) ∙ i)

  -- each step keeps it
  pub finite-kept : (d : Configuration) (who : Who) (A : Act State Message) → Does c who A d → IsFinite d
  finite-kept d who (Moves m) e = record {
    nodes = firsts ((who, m.next) ∷ alive m.children) ++ n.nodes;
    listed = states ((who, m.next) ∷ alive m.children) d.nodes (ap (λ (z : Configuration). z.nodes) e);
    ends = firsts (both_ways m.channels) ++ n.ends;
    joined = partners (both_ways m.channels) d.partner (ap (λ (z : Configuration). z.partner) e);
  }
  finite-kept d who (Looks t x f) (z, m, ms, s, pz, oz, fm, e) = record {
    nodes = who ∷ n.nodes;
    listed = states ((who, Some s) ∷ []) d.nodes (ap (λ (z : Configuration). z.nodes) e);
    ends = n.ends;
    joined = partners [] d.partner (ap (λ (z : Configuration). z.partner) e);
  }
  finite-kept d who (Links x y) (x2, y2, px, py, xy, x2y, e) = record {
    nodes = who ∷ n.nodes;
    listed = states ((who, None) ∷ []) d.nodes (ap (λ (z : Configuration). z.nodes) e);
    ends = firsts (rewired x y x2 y2) ++ n.ends;
    joined = partners (rewired x y x2 y2) d.partner (ap (λ (z : Configuration). z.partner) e);
  }
  finite-kept d who Stands e = absurd e
  finite-kept d who Breaks e = absurd e

-- and the start has it
pub finite-start : (w : World) (scripts : List Lines) → IsFinite (start w scripts)
finite-start w scripts = record {
  nodes = _;
  listed = λ who s i. updated same_who same_who-is (λ v. None) [] (λ k v j. absurd (cc j)) _ who s i;
  ends = _;
  joined = λ e h. updated same_end same_end-is (λ v. None) [] (λ k v j. absurd (cc j)) _ e h.0 h.1;
}

-- what is lawful has it
pub finite-of : (source : Program) (c : Configuration) → Lawful source c → IsFinite c
finite-of source c l = record { nodes = l.nodes; listed = l.listed; ends = l.ends; joined = l.joined }
