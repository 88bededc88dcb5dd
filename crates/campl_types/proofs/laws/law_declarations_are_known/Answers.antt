use Rattle.campl_types.proofs.DeclaredOnce.{well-declared-constructors, types-are-known, protocols-are-known, coprotocols-are-known}
use Rattle.campl_types.proofs.PartsKnown.{parts-are-known}
use Rattle.campl_types.proofs.laws.law_declarations_are_known.Goals as goal

pub returns : goal.returns
returns c =
    record {
      constructors = well-declared-constructors;
      types = types-are-known;
      parts = parts-are-known;
      protocols = protocols-are-known;
      coprotocols = coprotocols-are-known;
    }
