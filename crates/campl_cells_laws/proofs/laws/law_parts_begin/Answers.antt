use Rattle.campl_cells_laws.proofs.laws.law_parts_begin.Goals as goal
use Rattle.campl_cells_laws.proofs.Represented.{parts-stand, parts-there}

pub returns : goal.returns
returns c = record {
  there = λ source code scripts accepted standing. parts-there source code scripts accepted standing;
  stands = λ source code scripts m accepted standing. parts-stand source code scripts accepted standing m;
}
