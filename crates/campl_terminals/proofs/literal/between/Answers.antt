use Rattle.std.specs.Str.Iter.{chars_rest}
use Rattle.campl_terminals.proofs.Inside.{inside_of}
use Rattle.campl_terminals.proofs.literal.between.Goals as goal

pub returns : goal.returns
returns c =
    inside_of chars_rest c.chars-letters.result c.next.new.self c.next_back.new.self c.args.text.now c.as_str.result.now c.next.result c.next_back.result
    c.chars-letters.ensures.rest c.as_str.ensures c.utf8.text c.as_str.utf8 c.next.ensures.steps.0 c.next_back.ensures.steps
