-- Whole sources judged: no fault, or the first one as the reference tells it.
use Rattle.std.proofs.Common.{◌≡◌, refl, Some, codes}
use Rattle.campl_tree.specs.declared.service.Side.TheVariants.{Output}
use Rattle.campl_tree.specs.Plain.SeqType as s
use Rattle.campl_tree.specs.Plain.ChanType as c
use Rattle.campl_types.specs.SameType.{nowhere}
use Rattle.campl_types.specs.World.{world_of}
use Rattle.campl_seqcheck.specs.Judged.{fine, Is, Fails}
use Rattle.campl_linear.specs.Faults.{NotHeld, LeftOver, WrongAction, PlugUse, PlugCycle, PlugApart, CaseMissing, CaseTwice, RaceForm, IdentityType, CallChannels, PartCount}
use Rattle.campl_linear.specs.Processes.{judge_processes}
use Rattle.typed_sources.specs.Trees.{place}
use Rattle.typed_sources.specs.Bank.{bank}
use Rattle.typed_sources.specs.ChainOfStages.{chain_of_stages}
use Rattle.typed_sources.specs.EndsTravel.{ends_travel}
use Rattle.typed_sources.specs.FillsAText.{fills_a_text}
use Rattle.typed_sources.specs.FirstOfNone.{first_of_none}
use Rattle.typed_sources.specs.FirstOfTexts.{first_of_texts}
use Rattle.typed_sources.specs.FirstRowWins.{first_row_wins}
use Rattle.typed_sources.specs.ForksToAHeldName.{forks_to_a_held_name}
use Rattle.typed_sources.specs.GivesABox.{gives_a_box}
use Rattle.typed_sources.specs.HaltsAClosedChannel.{halts_a_closed_channel}
use Rattle.typed_sources.specs.HaltsAtOnce.{halts_at_once}
use Rattle.typed_sources.specs.HandsOverAnOutput.{hands_over_an_output}
use Rattle.typed_sources.specs.HasARowTwice.{has_a_row_twice}
use Rattle.typed_sources.specs.LeavesAChannel.{leaves_a_channel}
use Rattle.typed_sources.specs.LeavesAPartApart.{leaves_a_part_apart}
use Rattle.typed_sources.specs.LinksBehindASend.{links_behind_a_send}
use Rattle.typed_sources.specs.LinksThroughNeg.{links_through_neg}
use Rattle.typed_sources.specs.LinksTwoInputs.{links_two_inputs}
use Rattle.typed_sources.specs.MissesAConstructor.{misses_a_constructor}
use Rattle.typed_sources.specs.NeverReturns.{never_returns}
use Rattle.typed_sources.specs.PlugsOnePart.{plugs_one_part}
use Rattle.typed_sources.specs.PrintsHello.{prints_hello}
use Rattle.typed_sources.specs.PutsAtAGet.{puts_at_a_get}
use Rattle.typed_sources.specs.RacesADoor.{races_a_door}
use Rattle.typed_sources.specs.RacesAtAPick.{races_at_a_pick}
use Rattle.typed_sources.specs.RacesTwoTerminals.{races_two_terminals}
use Rattle.typed_sources.specs.ReadsALine.{reads_a_line}
use Rattle.typed_sources.specs.SendsAhead.{sends_ahead}
use Rattle.typed_sources.specs.SharesTwoChannels.{shares_two_channels}
use Rattle.typed_sources.specs.UsesALinkThrice.{uses_a_link_thrice}
use Rattle.typed_sources.specs.UsesAllCommands.{uses_all_commands}
use Rattle.typed_sources.specs.UsesAllExpressions.{uses_all_expressions}

bank-row : judge_processes (world_of bank) bank ≡ Is fine
bank-row = refl

chain-of-stages-row : judge_processes (world_of chain_of_stages) chain_of_stages ≡ Is fine
chain-of-stages-row = refl

ends-travel-row : judge_processes (world_of ends_travel) ends_travel ≡ Is fine
ends-travel-row = refl

fills-a-text-row : judge_processes (world_of fills_a_text) fills_a_text ≡ Is fine
fills-a-text-row = refl

first-of-none-row : judge_processes (world_of first_of_none) first_of_none ≡ Is fine
first-of-none-row = refl

first-of-texts-row : judge_processes (world_of first_of_texts) first_of_texts ≡ Is fine
first-of-texts-row = refl

first-row-wins-row : judge_processes (world_of first_row_wins) first_row_wins ≡ Is fine
first-row-wins-row = refl

forks-to-a-held-name-row : judge_processes (world_of forks_to_a_held_name) forks_to_a_held_name ≡ Fails (LeftOver (place 3 9) (codes "x"))
forks-to-a-held-name-row = refl

gives-a-box-row : judge_processes (world_of gives_a_box) gives_a_box ≡ Is fine
gives-a-box-row = refl

halts-a-closed-channel-row : judge_processes (world_of halts_a_closed_channel) halts_a_closed_channel ≡ Fails (NotHeld (place 5 14) (codes "a"))
halts-a-closed-channel-row = refl

halts-at-once-row : judge_processes (world_of halts_at_once) halts_at_once ≡ Is fine
halts-at-once-row = refl

hands-over-an-output-row : judge_processes (world_of hands_over_an_output) hands_over_an_output ≡ Fails (CallChannels (place 4 23) (Some (codes "y")))
hands-over-an-output-row = refl

has-a-row-twice-row : judge_processes (world_of has_a_row_twice) has_a_row_twice ≡ Fails (CaseTwice (place 8 9) (codes "Open"))
has-a-row-twice-row = refl

leaves-a-channel-row : judge_processes (world_of leaves_a_channel) leaves_a_channel ≡ Fails (LeftOver (place 4 9) (codes "b"))
leaves-a-channel-row = refl

leaves-a-part-apart-row : judge_processes (world_of leaves_a_part_apart) leaves_a_part_apart ≡ Fails (PlugApart (place 5 9) 3)
leaves-a-part-apart-row = refl

links-behind-a-send-row : judge_processes (world_of links_behind_a_send) links_behind_a_send ≡ Is fine
links-behind-a-send-row = refl

links-through-neg-row : judge_processes (world_of links_through_neg) links_through_neg ≡ Is fine
links-through-neg-row = refl

links-two-inputs-row : judge_processes (world_of links_two_inputs) links_two_inputs ≡ Fails (IdentityType (place 2 18))
links-two-inputs-row = refl

misses-a-constructor-row : judge_processes (world_of misses_a_constructor) misses_a_constructor ≡ Fails (CaseMissing (place 5 15) (codes "Shut"))
misses-a-constructor-row = refl

never-returns-row : judge_processes (world_of never_returns) never_returns ≡ Is fine
never-returns-row = refl

plugs-one-part-row : judge_processes (world_of plugs_one_part) plugs_one_part ≡ Fails (PartCount (place 2 13))
plugs-one-part-row = refl

prints-hello-row : judge_processes (world_of prints_hello) prints_hello ≡ Is fine
prints-hello-row = refl

puts-at-a-get-row : judge_processes (world_of puts_at_a_get) puts_at_a_get ≡ Fails (WrongAction (place 4 9) (codes "t") (c.Get (s.List s.Char) (c.Named nowhere (codes "StringTerminal") s.no_types)) Output)
puts-at-a-get-row = refl

races-a-door-row : judge_processes (world_of races_a_door) races_a_door ≡ Is fine
races-a-door-row = refl

races-at-a-pick-row : judge_processes (world_of races_at_a_pick) races_at_a_pick ≡ Fails (RaceForm (place 3 9))
races-at-a-pick-row = refl

races-two-terminals-row : judge_processes (world_of races_two_terminals) races_two_terminals ≡ Is fine
races-two-terminals-row = refl

reads-a-line-row : judge_processes (world_of reads_a_line) reads_a_line ≡ Is fine
reads-a-line-row = refl

sends-ahead-row : judge_processes (world_of sends_ahead) sends_ahead ≡ Is fine
sends-ahead-row = refl

shares-two-channels-row : judge_processes (world_of shares_two_channels) shares_two_channels ≡ Fails (PlugCycle (place 2 31) (codes "d"))
shares-two-channels-row = refl

uses-a-link-thrice-row : judge_processes (world_of uses_a_link_thrice) uses_a_link_thrice ≡ Fails (PlugUse (place 5 9) (codes "c"))
uses-a-link-thrice-row = refl

uses-all-commands-row : judge_processes (world_of uses_all_commands) uses_all_commands ≡ Is fine
uses-all-commands-row = refl

uses-all-expressions-row : judge_processes (world_of uses_all_expressions) uses_all_expressions ≡ Is fine
uses-all-expressions-row = refl
