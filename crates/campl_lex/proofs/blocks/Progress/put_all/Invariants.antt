use Rattle.std.proofs.Common.{◌≡◌, ℕ, List, drop, None}
use Rattle.campl_tree.specs.declared.place.Place.{Place}
use Rattle.campl_lex.specs.Layout.{laid, adds}
use Rattle.campl_lex.proofs.blocks.Progress.put_all.Given as goal

abbrev pub invariant-loop-token : goal.invariant-loop-token
invariant-loop-token l =
    (text : List ℕ) (end : Place)
    → adds l.self.tokens.items (laid text end l.self.stack l.last (drop l.token-index l.tokens)) ≡ adds l.initial.self.tokens.items (laid text end l.initial.self.stack None l.tokens)
