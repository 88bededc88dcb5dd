-- What a name's passing the test says.
use Rattle.std.proofs.Common.{◌≡◌, ◌≤◌, ◌<◌, Bool, true, false, List, [], refl, sym, ltb-true, leb-true}
use Rattle.campl_gram.specs.Grammar.{Piece}
use Rattle.campl_gram.specs.Reading.{Tables, nullable, first}
use Rattle.campl_gram.specs.Tests.{Wrong, Rank, Nul, Starts, Conts, Undecided, Unplaced, Tall, unless, both, wrongs, within, goes_on, decides, lead, placed, cost}
use Rattle.campl_gram.proofs.Sets.{and-left, and-right}

-- where nothing is wrong the first test holds and nothing else is wrong
unless-none : (b : Bool) (problem : Wrong) (rest : List Wrong) → unless b problem rest ≡ [] → (b ≡ true) × (rest ≡ [])
unless-none true problem rest e = (refl, e)
unless-none false problem rest e = cc

-- tests that are both true or both false are equal
both-same : (a b : Bool) → both a b ≡ true → a ≡ b
both-same true true e = refl
both-same true false e = sym e
both-same false true e = e
both-same false false e = refl

module _ {T K P : Type 0} (N : Type 0) (Sem : N → Type 0) (same : K → K → Bool) (tables : Tables K N) (rule : (m : N) → Piece T K P N Sem (Sem m)) where
  -- all that the test says of a name
  pub record Passed (m : N) : Type 0 where
    pub low : tables.rank m < tables.ranks
    pub leads : lead tables (rule m) ≤ tables.rank m
    pub nuls : nullable tables (rule m) ≡ tables.nul m
    pub starts : within same (first tables (rule m)) (tables.starts m) ≡ true
    pub conts : within same (goes_on tables (rule m)) (tables.conts m) ≡ true
    pub decided : decides tables same (rule m) ≡ true
    pub placed : placed tables (rule m) ≡ true
    pub costs : cost tables (rule m) ≤ tables.tall m
    pub tall_low : tables.tall m < tables.talls

  -- the test says it
  pub passed : (m : N) → wrongs same tables rule m ≡ [] → Passed m
  passed m e =
      let ranked = unless-none _ Rank _ e in
      let nulled = unless-none _ Nul _ ranked.1 in
      let started = unless-none _ Starts _ nulled.1 in
      let continued = unless-none _ Conts _ started.1 in
      let told = unless-none _ Undecided _ continued.1 in
      let seen = unless-none _ Unplaced _ told.1 in
      let measured = unless-none _ Tall _ seen.1 in
      record {
        low = ltb-true _ _ (and-left _ _ ranked.0);
        leads = leb-true _ _ (and-right _ _ ranked.0);
        nuls = both-same _ _ nulled.0;
        starts = started.0;
        conts = continued.0;
        decided = told.0;
        placed = seen.0;
        costs = leb-true _ _ (and-right _ _ measured.0);
        tall_low = ltb-true _ _ (and-left _ _ measured.0);
      }
