use Rattle.std.proofs.Common.{◌≡◌, ◌++◌, map, take, drop}
use Rattle.campl_plug.specs.Labels.{relabel_of}
use Rattle.campl_plug.proofs.labels.relabel.Given as goal

-- the labels so far are changed, and the rest stand as they were
abbrev pub invariant-loop-label : goal.invariant-loop-label
invariant-loop-label l = l.labels ≡ map (relabel_of l.from l.to) (take l.label-index l.initial.labels) ++ drop l.label-index l.initial.labels
