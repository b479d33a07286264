-- What was asked of a shelf behind some reads is known of the shelf before them too.
use Rattle.std.proofs.Common.{◌≡◌, ℕ, ◌+◌, ◌-◌, ◌^◌, ◌≤◌, ◌⊎◌, List, length, min, take, Option, Some, None, inl, inr, arith, refl, subst}
use Rattle.std.specs.FinMap.{get}
use Rattle.hr_base.specs.Limits.{module_limit}
use Rattle.hr_shelf.specs.Outside.{Files, HoldsMore, Store, ToldOr}
use Rattle.hr_files.specs.Read.{AreRead, HasTexts, IsUnread, IsUnreadFile, OnlyReads, ReadFailed}
use Rattle.hr_files.specs.declared.reading.Unread.{Unread}

rose_since : (limit before now after : ℕ) → before ≤ now → min (now + 1) limit ≤ after → min (before + 1) limit ≤ after
rose_since limit before now after known rose = omega (arith, known, rose)

either_way : {A B C : Type 0} → (B → C) → A ⊎ B → A ⊎ C
either_way f (inl a) = inl a
either_way f (inr b) = inr (f b)

told_or : (told : Option Files) (P Q : Files → Type 0) (A B : Type 0) → ((files : Files) → P files → Q files) → (A → B) → ToldOr told P A → ToldOr told Q B
told_or None P Q A B f g fact = g fact
told_or (Some files) P Q A B f g fact = f files fact

module _ (start now after : Store) (only : OnlyReads start now) where
  failed_since : (name : List ℕ) → ReadFailed name now after → ReadFailed name start after
  failed_since name failed = rose_since (2 ^ 64 - 1) (start.read_faults name) (now.read_faults name) (after.read_faults name) (only.reads name) failed

  file_since : (file : ℕ) (name : List ℕ) (unread : Unread) → IsUnreadFile file name now after unread → IsUnreadFile file name start after unread
  file_since file name (Unread.Missing number) (is, cause) = (
    is,
    told_or start.told (λ files. (get files name ≡ None) ⊎ ReadFailed name now after) (λ files. (get files name ≡ None) ⊎ ReadFailed name start after)
        (ReadFailed name now after) (ReadFailed name start after) (λ files. either_way (failed_since name)) (failed_since name)
        (subst (λ told. ToldOr told (λ files. (get files name ≡ None) ⊎ ReadFailed name now after) (ReadFailed name now after)) only.told cause),
  )
  file_since file name (Unread.TooLong number) (is, cause) = (
    is,
    told_or start.told (λ files. HoldsMore files name module_limit) (λ files. HoldsMore files name module_limit) (ReadFailed name now after) (ReadFailed name start after)
        (λ files fact. fact) (failed_since name)
        (subst (λ told. ToldOr told (λ files. HoldsMore files name module_limit) (ReadFailed name now after)) only.told cause),
  )
  file_since file name Unread.TooLongTogether cause = cause
  file_since file name Unread.Memory cause = cause

  -- why files were not read
  pub unread_since : (names : List (List ℕ)) (unread : Unread) → IsUnread names now after unread → IsUnread names start after unread
  unread_since names (Unread.Missing file) (within, cause) = (within, file_since file _ (Unread.Missing file) cause)
  unread_since names (Unread.TooLong file) (within, cause) = (within, file_since file _ (Unread.TooLong file) cause)
  unread_since names Unread.TooLongTogether (texts, told, over) = (texts, subst (λ t. HasTexts t (take (length texts) names) texts) only.told told, over)
  unread_since names Unread.Memory cause = cause

-- the texts of files
pub read_since : (start now : Store) → OnlyReads start now → (names texts : List (List ℕ)) → AreRead names now texts → AreRead names start texts
read_since start now only names texts read = record {
  count = read.count;
  told = subst (λ t. HasTexts t names texts) only.told read.told;
  each = read.each;
  together = read.together;
}

-- of one file alone, whatever number it is told by
pub first_missing : (name : List ℕ) (start now : Store) (number : ℕ) → IsUnreadFile 0 name start now (Unread.Missing number) → IsUnreadFile 0 name start now (Unread.Missing 0)
first_missing name start now number cause = (refl, cause.1)

pub first_too_long : (name : List ℕ) (start now : Store) (number : ℕ) → IsUnreadFile 0 name start now (Unread.TooLong number) → IsUnreadFile 0 name start now (Unread.TooLong 0)
first_too_long name start now number cause = (refl, cause.1)
