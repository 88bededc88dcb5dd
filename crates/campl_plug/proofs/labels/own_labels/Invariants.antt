use Rattle.std.proofs.Common.{◌≡◌, ◌<◌, ℕ, length, get_or}
use Rattle.campl_plug.proofs.labels.own_labels.Given as goal

-- so far each part has its own number
abbrev pub invariant-loop-part : goal.invariant-loop-part
invariant-loop-part l = record { size : length l.labels.items ≡ l.part; own : (p : ℕ) → p < l.part → get_or l.labels.items p 0 ≡ p }
