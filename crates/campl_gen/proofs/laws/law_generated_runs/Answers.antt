use Rattle.campl_types.specs.World.{world_of}
use Rattle.campl_code_laws.proofs.Generated.{code-itself, code-stands}
use Rattle.campl_code_laws.proofs.Runs.{code-begins, code-runs, source-runs}
use Rattle.campl_gen.specs.Generated.{world_code}
use Rattle.campl_gen.proofs.laws.law_generated_runs.Goals as goal

pub returns : goal.returns
returns c = record {
  code = λ source. code-itself source;
  begins = λ source scripts accepted. code-begins source accepted (world_code (world_of source)) (code-stands source accepted (world_code (world_of source)) (code-itself source)) scripts;
  all = λ source scripts c accepted. code-runs source accepted (world_code (world_of source)) (code-stands source accepted (world_code (world_of source)) (code-itself source)) scripts c;
  no_others = λ source scripts c accepted. source-runs source accepted (world_code (world_of source)) (code-stands source accepted (world_code (world_of source)) (code-itself source)) scripts c;
}
