-- Messages by their kind.
use Rattle.std.specs.Prelude.{Option, Some, None}
use Rattle.campl_value.specs.Tree.{Tree}
use Rattle.campl_value.specs.declared.message.Message.{Message}
use Rattle.campl_value.specs.declared.message.Message.TheVariants.{Word, Pick, Ends}

-- the value that was put, and None of another message
abbrev pub word_of : Message → Option Tree
word_of (Word value) = Some value
word_of (Pick constructor) = None
word_of (Ends first second) = None
