-- The line of each work is read back, so no two works have one text, and no line is a prefix of another work's.
use mathlib.Core.List.{IsPrefix, append-nil}
use Rattle.std.proofs.Common.{◌≡◌, ℕ, ◌<◌, ◌^◌, List, [], ◌∷◌, ◌++◌, refl, sym, ap, ap₂, ◌∙◌, append_assoc, true, false, codes, decimal}
use Rattle.cs_model.specs.declared.work.Work.{Work}
use Rattle.cs_model.specs.declared.work.Work.TheVariants as work
use Rattle.cs_model.specs.Works.{renewed_text, merged_text, rows_text, counted_text, work_text}
use Rattle.text_laws.specs.Lines.{FitsWords, work_line}
use Rattle.text_laws.proofs.Numbers.{head_of, numbers_in, head_number, read_number}
use Rattle.text_laws.proofs.Reader.{made, work_in}

-- ---- what a text is read as

-- whatever follows, the text is read as this head and these numbers, of which the last may go on
record Reads (text head firsts : List ℕ) (last : ℕ) : Type 0 where
  heads : (bytes : List ℕ) → head_of (text ++ bytes) ≡ head
  numbers : (bytes : List ℕ) → numbers_in (text ++ bytes) false 0 ≡ firsts ++ numbers_in bytes true last

-- these bytes have no digit, and stand before the first number
record AreWords (words : List ℕ) : Type 0 where
  heads : (bytes : List ℕ) → head_of (words ++ codes " " ++ bytes) ≡ words ++ codes " " ++ head_of bytes
  numbers : (bytes : List ℕ) → numbers_in (words ++ codes " " ++ bytes) false 0 ≡ numbers_in bytes false 0

-- these bytes have no digit, and stand between two numbers
record ArePart (part : List ℕ) : Type 0 where
  ends : (bytes : List ℕ) (n : ℕ) → numbers_in (part ++ bytes) true n ≡ n ∷ numbers_in bytes false 0

-- the text of one number
counted : (words : List ℕ) (n : ℕ) → AreWords words → n < 2 ^ 64 → Reads (counted_text words n) (words ++ codes " ") [] n
counted words n are small = record {
  heads = λ bytes.
      ap head_of (append_assoc (words ++ codes " ") (decimal n) bytes) ∙ are.heads (decimal n ++ bytes)
      ∙ ap (λ z. words ++ codes " " ++ z) (head_number n small bytes) ∙ append-nil (words ++ codes " ");
  numbers = λ bytes.
      ap (λ z. numbers_in z false 0) (append_assoc (words ++ codes " ") (decimal n) bytes) ∙ are.numbers (decimal n ++ bytes) ∙ read_number n small bytes;
}

-- the text with one number more
further : (text head firsts part : List ℕ) (last n : ℕ) → Reads text head firsts last → ArePart part → n < 2 ^ 64
    → Reads (text ++ part ++ decimal n) head (firsts ++ last ∷ []) n
further text head firsts part last n reads are small = record {
  heads = λ bytes. ap head_of (cut bytes) ∙ reads.heads (part ++ (decimal n ++ bytes));
  numbers = λ bytes.
      ap (λ z. numbers_in z false 0) (cut bytes) ∙ reads.numbers (part ++ (decimal n ++ bytes))
      ∙ ap (λ z. firsts ++ z) (are.ends (decimal n ++ bytes) last ∙ ap (λ z. last ∷ z) (read_number n small bytes))
      ∙ sym (append_assoc firsts (last ∷ []) (numbers_in bytes true n));
}
  where
    cut : (bytes : List ℕ) → text ++ part ++ decimal n ++ bytes ≡ text ++ (part ++ (decimal n ++ bytes))
    cut bytes = append_assoc (text ++ part) (decimal n) bytes ∙ append_assoc text part (decimal n ++ bytes)

renewed : (words : List ℕ) (source fresh : ℕ) → AreWords words → (source < 2 ^ 64) × (fresh < 2 ^ 64)
    → Reads (renewed_text words source fresh) (words ++ codes " ") (source ∷ []) fresh
renewed words source fresh are small =
    further (counted_text words source) (words ++ codes " ") [] (codes " to ") source fresh (counted words source are small.0) (record { ends = λ bytes n. refl }) small.1

merged : (words : List ℕ) (first second fresh : ℕ) → AreWords words → (first < 2 ^ 64) × (second < 2 ^ 64) × (fresh < 2 ^ 64)
    → Reads (merged_text words first second fresh) (words ++ codes " ") (first ∷ second ∷ []) fresh
merged words first second fresh are small =
    let two = further (counted_text words first) (words ++ codes " ") [] (codes " ") first second (counted words first are small.0) (record { ends = λ bytes n. refl }) small.1 in
    further (counted_text words first ++ codes " " ++ decimal second) (words ++ codes " ") (first ∷ []) (codes " to ") second fresh two (record { ends = λ bytes n. refl }) small.2

with_rows : (text head firsts : List ℕ) (last rows : ℕ) → Reads text head firsts last → rows < 2 ^ 64 → Reads (rows_text text rows) head (firsts ++ last ∷ []) rows
with_rows text head firsts last rows reads small = further text head firsts (codes " rows ") last rows reads (record { ends = λ bytes n. refl }) small

-- ---- the line of each work

-- the line of a text that is so read, whatever follows it
line_read : (text head firsts : List ℕ) (last : ℕ) → Reads text head firsts last → (rest : List ℕ) → work_in (text ++ codes "\n" ++ rest) ≡ made head (firsts ++ last ∷ [])
line_read text head firsts last reads rest =
    ap work_in (append_assoc text (codes "\n") rest) ∙ ap₂ made (reads.heads (codes "\n" ++ rest)) (reads.numbers (codes "\n" ++ rest))

claim_compress : AreWords (codes "claim compress")
claim_compress = record { heads = λ bytes. refl; numbers = λ bytes. refl }

install_compress : AreWords (codes "install compress")
install_compress = record { heads = λ bytes. refl; numbers = λ bytes. refl }

release_compress : AreWords (codes "release compress")
release_compress = record { heads = λ bytes. refl; numbers = λ bytes. refl }

claim_rebuild : AreWords (codes "claim rebuild")
claim_rebuild = record { heads = λ bytes. refl; numbers = λ bytes. refl }

install_rebuild : AreWords (codes "install rebuild")
install_rebuild = record { heads = λ bytes. refl; numbers = λ bytes. refl }

release_rebuild : AreWords (codes "release rebuild")
release_rebuild = record { heads = λ bytes. refl; numbers = λ bytes. refl }

claim_merge : AreWords (codes "claim merge")
claim_merge = record { heads = λ bytes. refl; numbers = λ bytes. refl }

install_merge : AreWords (codes "install merge")
install_merge = record { heads = λ bytes. refl; numbers = λ bytes. refl }

release_merge : AreWords (codes "release merge")
release_merge = record { heads = λ bytes. refl; numbers = λ bytes. refl }

claim_flush : AreWords (codes "claim flush")
claim_flush = record { heads = λ bytes. refl; numbers = λ bytes. refl }

install_flush : AreWords (codes "install flush")
install_flush = record { heads = λ bytes. refl; numbers = λ bytes. refl }

release_flush : AreWords (codes "release flush")
release_flush = record { heads = λ bytes. refl; numbers = λ bytes. refl }

settle : AreWords (codes "settle")
settle = record { heads = λ bytes. refl; numbers = λ bytes. refl }

clear : AreWords (codes "clear")
clear = record { heads = λ bytes. refl; numbers = λ bytes. refl }

close : AreWords (codes "close")
close = record { heads = λ bytes. refl; numbers = λ bytes. refl }

read_back : (w : Work) → FitsWords w → (rest : List ℕ) → work_in (work_line w ++ rest) ≡ w
read_back (work.ClaimCompress source fresh) fits rest = line_read _ _ _ _ (renewed _ source fresh claim_compress fits) rest
read_back (work.InstallCompress source fresh rows) fits rest = line_read _ _ _ _ (with_rows _ _ _ _ rows (renewed _ source fresh install_compress (fits.0, fits.1)) fits.2) rest
read_back (work.ReleaseCompress source fresh) fits rest = line_read _ _ _ _ (renewed _ source fresh release_compress fits) rest
read_back (work.ClaimRebuild source fresh) fits rest = line_read _ _ _ _ (renewed _ source fresh claim_rebuild fits) rest
read_back (work.InstallRebuild source fresh rows) fits rest = line_read _ _ _ _ (with_rows _ _ _ _ rows (renewed _ source fresh install_rebuild (fits.0, fits.1)) fits.2) rest
read_back (work.ReleaseRebuild source fresh) fits rest = line_read _ _ _ _ (renewed _ source fresh release_rebuild fits) rest
read_back (work.ClaimMerge first second fresh) fits rest = line_read _ _ _ _ (merged _ first second fresh claim_merge fits) rest
read_back (work.InstallMerge first second fresh rows) fits rest =
    line_read _ _ _ _ (with_rows _ _ _ _ rows (merged _ first second fresh install_merge (fits.0, fits.1, fits.2)) fits.3) rest
read_back (work.ReleaseMerge first second fresh) fits rest = line_read _ _ _ _ (merged _ first second fresh release_merge fits) rest
read_back (work.ClaimFlush entries) fits rest = line_read _ _ _ _ (counted _ entries claim_flush fits) rest
read_back (work.InstallFlush entries) fits rest = line_read _ _ _ _ (counted _ entries install_flush fits) rest
read_back (work.ReleaseFlush entries) fits rest = line_read _ _ _ _ (counted _ entries release_flush fits) rest
read_back (work.Settle ends) fits rest = line_read _ _ _ _ (counted _ ends settle fits) rest
read_back (work.Clear groups) fits rest = line_read _ _ _ _ (counted _ groups clear fits) rest
read_back (work.Close group) fits rest = line_read _ _ _ _ (counted _ group close fits) rest
read_back work.Memory fits rest = refl

-- ---- the law

pub texts_tell : (w other : Work) → FitsWords w → FitsWords other → work_text w ≡ work_text other → w ≡ other
texts_tell w other fits fits_other same = sym (read_back w fits []) ∙ ap (λ text. work_in (text ++ codes "\n" ++ [])) same ∙ read_back other fits_other []

pub lines_tell : (w other : Work) → FitsWords w → FitsWords other → IsPrefix (work_line w) (work_line other) → w ≡ other
lines_tell w other fits fits_other begins =
    sym (read_back w fits begins.0) ∙ ap work_in (begins.1 ∙ sym (append-nil (work_line other))) ∙ read_back other fits_other []
