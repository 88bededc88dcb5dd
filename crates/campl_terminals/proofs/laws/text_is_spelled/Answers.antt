use Rattle.campl_terminals.proofs.Spelled.{literal_text}
use Rattle.campl_terminals.proofs.laws.text_is_spelled.Goals as goal

pub returns : goal.returns
returns c = literal_text
