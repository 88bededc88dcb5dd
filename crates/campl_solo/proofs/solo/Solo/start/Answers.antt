use Rattle.std.proofs.Common.{◌≡◌, List, length, ap, subst, arith}
use Rattle.std.proofs.lemmas.List.{length-map}
use Rattle.campl_types.specs.Run.{services_of}
use Rattle.campl_types.specs.World.{world_of}
use Rattle.campl_service.specs.Services.{Serving}
use Rattle.campl_eval.specs.View.{code_of}
use Rattle.campl_steps.specs.Begins.{IsStart}
use Rattle.campl_solo.specs.Beginning.{servings_at_start}
use Rattle.campl_solo.proofs.Starting.{at-start}
use Rattle.campl_solo.proofs.solo.Solo.start.Goals as goal

pub returns-in-Ok-start : goal.returns-in-Ok-start
returns-in-Ok-start c source scripts accepted standing numbered serves =
    let code = code_of c.args.program.now in
    let begun = subst (λ (l : List Serving). IsStart code c.args.number l c.in-Ok.config) serves c.in-Ok.ensures in
    let e = c.in-Ok-start.ensures in
    let total = c.len-channels.result in
    let same = ap (λ (l : List Serving). length l) serves in
    let mapped = length-map c.args.services.items (λ s. s.serving) in
    let is = c.len-channels.ensures in
    let all : total ≡ length (servings_at_start (services_of (world_of source)) scripts) = omega (arith, same, mapped, is) in
    let ranks = e.ranks in
    let waiting = e.waiting in
    at-start source code scripts accepted standing c.args.number numbered (record { config = c.in-Ok.config; schedule = c.in-Ok-start.schedule }) begun total all e.scheduled e.flags (omega (arith, ranks)) (omega (arith, waiting))
