-- What a failed write leaves.
use Rattle.std.proofs.Common.{◌≡◌, ℕ, List, take, drop, ◌∙◌}
use Rattle.std.proofs.lemmas.List.{take-append-drop}
use Rattle.std.specs.Io.KnownBytes.{Appends}
use Rattle.campl_text.specs.Counts.{Rose}
use Rattle.campl_cli.specs.Answer.{Stream, FailedIn}

-- where the first k bytes went out and the count rose, the stream has failed in them
pub failed_in : (s : Stream) (bytes line : List ℕ) (k : ℕ) → bytes ≡ line → Rose s.faults_before s.faults_after → Appends s.before s.after (take k bytes) → FailedIn s line
failed_in s bytes line k same rose front = (rose, (take k bytes, drop k bytes, take-append-drop k bytes ∙ same, front))
