use Rattle.std.proofs.Common.{◌+◌, ◌-◌, ◌*◌}
use Rattle.campl_parse.proofs.body.+body.Given as goal

abbrev pub decreases-body : goal.decreases-body
decreases-body l = (201 - l.depth) * 7 + 4

abbrev pub decreases-last : goal.decreases-last
decreases-last l = (201 - l.depth) * 7 + 3

abbrev pub decreases-hcase : goal.decreases-hcase
decreases-hcase l = (201 - l.depth) * 7 + 2

abbrev pub decreases-fork : goal.decreases-fork
decreases-fork l = (201 - l.depth) * 7 + 2

abbrev pub decreases-plug : goal.decreases-plug
decreases-plug l = (201 - l.depth) * 7 + 2

abbrev pub decreases-race : goal.decreases-race
decreases-race l = (201 - l.depth) * 7 + 2

abbrev pub decreases-choice : goal.decreases-choice
decreases-choice l = (201 - l.depth) * 7 + 2

abbrev pub decreases-hrows : goal.decreases-hrows
decreases-hrows l = (201 - l.depth) * 7 + 1

abbrev pub decreases-branches : goal.decreases-branches
decreases-branches l = (201 - l.depth) * 7 + 1

abbrev pub decreases-parts : goal.decreases-parts
decreases-parts l = (201 - l.depth) * 7 + 1

abbrev pub decreases-crows : goal.decreases-crows
decreases-crows l = (201 - l.depth) * 7 + 1

abbrev pub decreases-hrow : goal.decreases-hrow
decreases-hrow l = (201 - l.depth) * 7 + 5

abbrev pub decreases-branch : goal.decreases-branch
decreases-branch l = (201 - l.depth) * 7 + 5

abbrev pub decreases-crow : goal.decreases-crow
decreases-crow l = (201 - l.depth) * 7 + 5

abbrev pub decreases-part : goal.decreases-part
decreases-part l = (201 - l.depth) * 7 + 6

abbrev pub decreases-fork_rows : goal.decreases-fork_rows
decreases-fork_rows l = (201 - l.depth) * 7 + 1

abbrev pub decreases-arrow_body : goal.decreases-arrow_body
decreases-arrow_body l = (201 - l.depth) * 7 + 5

abbrev pub decreases-hrows-block : goal.decreases-hrows-block
decreases-hrows-block l = (201 - l.depth) * 7

abbrev pub decreases-branches-block : goal.decreases-branches-block
decreases-branches-block l = (201 - l.depth) * 7

abbrev pub decreases-parts-block : goal.decreases-parts-block
decreases-parts-block l = (201 - l.depth) * 7

abbrev pub decreases-crows-block : goal.decreases-crows-block
decreases-crows-block l = (201 - l.depth) * 7
