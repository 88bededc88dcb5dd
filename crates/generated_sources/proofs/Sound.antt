-- The code of each accepted source breaks no rule.
use Rattle.std.specs.Prelude.{◌≡◌, refl, None}
use Rattle.campl_code.specs.Rules.{first_fault}
use Rattle.campl_code_bodies.specs.SourceCode.{source_code}
use Rattle.typed_sources.specs.Bank.{bank}
use Rattle.typed_sources.specs.ChainOfStages.{chain_of_stages}
use Rattle.typed_sources.specs.EndsTravel.{ends_travel}
use Rattle.typed_sources.specs.FillsAText.{fills_a_text}
use Rattle.typed_sources.specs.FirstOfNone.{first_of_none}
use Rattle.typed_sources.specs.FirstOfTexts.{first_of_texts}
use Rattle.typed_sources.specs.FirstRowWins.{first_row_wins}
use Rattle.typed_sources.specs.GivesABox.{gives_a_box}
use Rattle.typed_sources.specs.HaltsAtOnce.{halts_at_once}
use Rattle.typed_sources.specs.LinksBehindASend.{links_behind_a_send}
use Rattle.typed_sources.specs.LinksThroughNeg.{links_through_neg}
use Rattle.typed_sources.specs.NeverReturns.{never_returns}
use Rattle.typed_sources.specs.PrintsHello.{prints_hello}
use Rattle.typed_sources.specs.RacesADoor.{races_a_door}
use Rattle.typed_sources.specs.RacesTwoTerminals.{races_two_terminals}
use Rattle.typed_sources.specs.ReadsALine.{reads_a_line}
use Rattle.typed_sources.specs.SendsAhead.{sends_ahead}
use Rattle.typed_sources.specs.UsesAllCommands.{uses_all_commands}
use Rattle.typed_sources.specs.UsesAllExpressions.{uses_all_expressions}

of_bank : first_fault (source_code bank) ≡ None
of_bank = refl

of_chain_of_stages : first_fault (source_code chain_of_stages) ≡ None
of_chain_of_stages = refl

of_ends_travel : first_fault (source_code ends_travel) ≡ None
of_ends_travel = refl

of_fills_a_text : first_fault (source_code fills_a_text) ≡ None
of_fills_a_text = refl

of_first_of_none : first_fault (source_code first_of_none) ≡ None
of_first_of_none = refl

of_first_of_texts : first_fault (source_code first_of_texts) ≡ None
of_first_of_texts = refl

of_first_row_wins : first_fault (source_code first_row_wins) ≡ None
of_first_row_wins = refl

of_gives_a_box : first_fault (source_code gives_a_box) ≡ None
of_gives_a_box = refl

of_halts_at_once : first_fault (source_code halts_at_once) ≡ None
of_halts_at_once = refl

of_links_behind_a_send : first_fault (source_code links_behind_a_send) ≡ None
of_links_behind_a_send = refl

of_links_through_neg : first_fault (source_code links_through_neg) ≡ None
of_links_through_neg = refl

of_never_returns : first_fault (source_code never_returns) ≡ None
of_never_returns = refl

of_prints_hello : first_fault (source_code prints_hello) ≡ None
of_prints_hello = refl

of_races_a_door : first_fault (source_code races_a_door) ≡ None
of_races_a_door = refl

of_races_two_terminals : first_fault (source_code races_two_terminals) ≡ None
of_races_two_terminals = refl

of_reads_a_line : first_fault (source_code reads_a_line) ≡ None
of_reads_a_line = refl

of_sends_ahead : first_fault (source_code sends_ahead) ≡ None
of_sends_ahead = refl

of_uses_all_commands : first_fault (source_code uses_all_commands) ≡ None
of_uses_all_commands = refl

of_uses_all_expressions : first_fault (source_code uses_all_expressions) ≡ None
of_uses_all_expressions = refl
