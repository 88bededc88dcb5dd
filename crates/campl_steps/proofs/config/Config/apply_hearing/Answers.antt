use Rattle.std.proofs.Common.{ℕ, Option, Some, refl, sym, subst, arith}
use Rattle.campl_cells.specs.Parts.{Proc}
use Rattle.campl_parts.specs.Serving.{Hears}
use Rattle.campl_parts.specs.Tables.{IsThere}
use Rattle.campl_steps.specs.Doing.{IsGivenAt}
use Rattle.campl_steps.proofs.Since.{served-since}
use Rattle.campl_steps.proofs.config.Config.apply_hearing.Goals as goal

pub hear-requires-clause-there : goal.hear-requires-clause-there
hear-requires-clause-there c = subst (λ (f : ℕ → Option Proc). IsThere (f c.args.number)) (sym c.make_room_of.ensures.same) c.requires.there

pub hear-requires-clause-given : goal.hear-requires-clause-given
hear-requires-clause-given c = subst (λ (f : ℕ → Option Proc). IsGivenAt (f c.args.number) (Some c.args.message)) (sym c.make_room_of.ensures.same) c.requires.given

pub returns-clause-did : goal.returns-clause-did
returns-clause-did c = record {
  process = λ q h. served-since (Hears c.args.message) c.args.self.now.processes.items c.make_room_of.new.processes.items c.hear.new.processes.items c.hear.new.processes.items c.args.number q
      c.make_room_of.ensures.same refl c.hear.ensures.goes h;
  tip = c.take.ensures.rest;
  processes = omega arith;
  ends = omega arith;
}
