use Rattle.std.proofs.Common.{◌∙◌, ap, map, not, rules}
use Rattle.std.proofs.lemmas.Fn.{filter_same}
use Rattle.campl_code.specs.Compiled.{is_asked}
use Rattle.campl_match.specs.View.{view_asked, view_asked_at, view_rows}
use Rattle.campl_match.proofs.Opened.{fails-filtered}
use Rattle.campl_match.proofs.open.where_fails.Goals as goal

pub returns : goal.returns
returns c =
    ap view_rows (filter_same _ (λ r. not (is_asked (view_asked c.args.asked.now) (map view_asked_at r.tests))) _ (λ x b f' k. search rules) _ _ c.retain.ensures.filtered)
    ∙ fails-filtered (view_asked c.args.asked.now) c.args.rows.items
