-- Values of the definitions, by computation.
use Rattle.std.proofs.Common.{◌≡◌, ◌^◌, ◌-◌, [], ◌∷◌, refl, None, Some}
use Rattle.std.specs.Str.{chars, is_utf8}
use Rattle.std.specs.Str.Lossy.{utf8_valid_len}
use Rattle.campl_text.specs.Counts.{one_more}
use Rattle.campl_text.specs.Marked.{without_mark}
use Rattle.campl_text.specs.Shelved.{Shelved, bytes_of, faults_of}
use Rattle.campl_text.specs.Taken.{Taken, share_of}

-- one mark is dropped, at the front alone
one_mark : without_mark (0xEF ∷ 0xBB ∷ 0xBF ∷ 97 ∷ []) ≡ 97 ∷ []
one_mark = refl

second_mark : without_mark (0xEF ∷ 0xBB ∷ 0xBF ∷ 0xEF ∷ 0xBB ∷ 0xBF ∷ []) ≡ 0xEF ∷ 0xBB ∷ 0xBF ∷ []
second_mark = refl

part_of_a_mark : without_mark (0xEF ∷ 0xBB ∷ []) ≡ 0xEF ∷ 0xBB ∷ []
part_of_a_mark = refl

-- where bytes stop being UTF-8: a byte that begins no character, a character that is cut off, and a surrogate
no_character : utf8_valid_len (0xFF ∷ []) ≡ 0
unfolding utf8_valid_len is_utf8 chars
no_character = refl

cut_off : utf8_valid_len (97 ∷ 0xC3 ∷ []) ≡ 1
unfolding utf8_valid_len is_utf8 chars lib.Utf8.encode
cut_off = refl

surrogate : utf8_valid_len (97 ∷ 0xED ∷ 0xA0 ∷ 0x80 ∷ []) ≡ 1
unfolding utf8_valid_len is_utf8 chars lib.Utf8.encode
surrogate = refl

-- a count stops at its largest value
stops : one_more (2 ^ 64 - 1) ≡ 2 ^ 64 - 1
stops = refl

-- a sink with room for 5 bytes that takes 3 at a time
sink : Taken
sink = record { bytes = []; room = 5; most = 3; failing = []; writes = 0; faults = 0 }

three : share_of sink (1 ∷ 2 ∷ 3 ∷ 4 ∷ []) ≡ 3
unfolding sink
three = refl

-- a shelf with the file `a`, after one failure by its number and two reads of names that aren't there
shelf : Shelved
shelf = record { files = record { name = 97 ∷ []; bytes = 7 ∷ []; missed = 0 } ∷ []; failing = []; reads = 3; numbered = 1; missing = 2 }

held : bytes_of shelf (97 ∷ []) ≡ Some (7 ∷ [])
unfolding shelf
held = refl

not_there : bytes_of shelf (98 ∷ []) ≡ None
unfolding shelf
not_there = refl

faults_of_the_file : faults_of shelf (97 ∷ []) ≡ 1
unfolding shelf
faults_of_the_file = refl

faults_elsewhere : faults_of shelf (98 ∷ []) ≡ 3
unfolding shelf
faults_elsewhere = refl
