-- Entries of a journal.
use Rattle.std.specs.Prelude.{ℕ, Option, None}
use Rattle.campl_value.specs.declared.message.Message.{Message}
use Rattle.campl_parts.specs.declared.entry.Entry.{Entry}
use Rattle.campl_parts.specs.declared.entry.Kind.{Kind}

-- a step of this kind, at this end with this message, if there are such
abbrev pub simple : (process : ℕ) → Kind → (end : Option ℕ) → Option Message → Entry
simple process kind end message = record {
  process = process;
  kind = kind;
  weight = 1;
  end = end;
  second = None;
  message = message;
  child = None;
  channel = None;
  channel2 = None;
}
