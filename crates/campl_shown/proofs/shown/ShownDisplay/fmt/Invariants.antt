use Rattle.std.proofs.Common.{encode_utf8_all, take}
use Rattle.std.specs.Fmt.{HasWritten, IsPlainFormatter}
use Rattle.campl_shown.proofs.shown.ShownDisplay.fmt.Given as goal

abbrev pub invariant-loop-c : goal.invariant-loop-c
invariant-loop-c g l =
    IsPlainFormatter l.fn.f → HasWritten g.W.Write.write_str_gives l.fn.f (encode_utf8_all (take l.c-index l.fn.self)) l.f
