-- One item more is respelled.
use Rattle.std.proofs.Common.{◌≡◌, ℕ, ◌+◌, ◌<◌, ◌≤◌, Bool, true, false, if◌then◌else◌, List, [], ◌∷◌, ◌++◌, length, take, get_or, subst, refl, sym, ap, ◌∙◌, arith}
use Rattle.std.proofs.lemmas.List.{take_more, take_all}
use Rattle.hr_base.specs.declared.lexeme.Item.{Item}
use Rattle.hr_plain.specs.Target.{Respells, AllRespell}
use Rattle.hr_plain.specs.Target.AllRespell.{none, more}

-- the text of the last of these lexemes, or what stands before them
abbrev pub last_text : List ℕ → List Item → List ℕ
last_text before [] = before
last_text before (item ∷ items) = last_text item.lexeme.text items

last_more : (before : List ℕ) (items : List Item) (item : Item) → last_text before (items ++ item ∷ []) ≡ item.lexeme.text
last_more before [] item = refl
last_more before (i ∷ items) item = last_more i.lexeme.text items item

take_zero : {X : Type 0} (xs : List X) → take 0 xs ≡ []
take_zero [] = refl
take_zero (x ∷ xs) = refl

one_more : {new before : List ℕ} {marks : List Bool} {olds items : List Item} (mark : Bool) (old item : Item) → AllRespell new before marks olds items
    → Respells new mark (last_text before items) old item → AllRespell new before (marks ++ mark ∷ []) (olds ++ old ∷ []) (items ++ item ∷ [])
one_more mark old item (none before) r = more before mark [] old item [] [] r (none item.lexeme.text)
one_more mark old item (more before m ms o i os is s rest) r = more before m (ms ++ mark ∷ []) o i (os ++ old ∷ []) (is ++ item ∷ []) s (one_more mark old item rest r)

text_respelled : (new before : List ℕ) (mark : Bool) (old item : Item) → Respells new mark before old item → item.lexeme.text ≡ (if mark then new else old.lexeme.text)
text_respelled new before true old item r = ap (λ l. l.text) r.0
text_respelled new before false old item r = ap (λ i. i.lexeme.text) r

-- the items so far are respelled, and the text is that of the last one
abbrev pub SoFar : List ℕ → List Bool → List Item → List Item → List ℕ → Type 0
SoFar new marks olds items before = AllRespell new [] marks olds items × (before ≡ last_text [] items)

-- at the start none is
pub at_start : (new : List ℕ) (marks : List Bool) (olds items : List Item) (before : List ℕ) → items ≡ [] → before ≡ [] → SoFar new (take 0 marks) (take 0 olds) items before
at_start new marks olds items before e f = (
  subst (λ ms. AllRespell new [] ms (take 0 olds) items) (sym (take_zero marks))
      (subst (λ os. AllRespell new [] [] os items) (sym (take_zero olds)) (subst (AllRespell new [] [] []) (sym e) (none []))),
  f ∙ ap (last_text []) (sym e),
)

-- the item at a place comes behind those before it
pub next : (new : List ℕ) (marks : List Bool) (olds items longer : List Item) (place : ℕ) (d : Bool) (old item : Item) (before text : List ℕ) → place < length olds → length marks ≡ length olds
    → old ≡ get_or olds place old → longer ≡ items ++ item ∷ []
    → SoFar new (take place marks) (take place olds) items before → Respells new (get_or marks place d) before old item → text ≡ (if get_or marks place d then new else old.lexeme.text)
    → SoFar new (take (place + 1) marks) (take (place + 1) olds) longer text
next new marks olds items longer place d old item before text within same o e so_far r t =
    let mark : Bool = get_or marks place d in
    let in_marks : place < length marks = omega (arith, within, same) in
    let taken_marks : take (place + 1) marks ≡ take place marks ++ mark ∷ [] = take_more marks place d in_marks in
    let taken_olds : take (place + 1) olds ≡ take place olds ++ old ∷ [] = take_more olds place old within ∙ ap (λ x. take place olds ++ x ∷ []) (sym o) in (
      subst (λ ms. AllRespell new [] ms (take (place + 1) olds) longer) (sym taken_marks)
          (subst (λ os. AllRespell new [] (take place marks ++ mark ∷ []) os longer) (sym taken_olds)
          (subst (AllRespell new [] (take place marks ++ mark ∷ []) (take place olds ++ old ∷ [])) (sym e)
          (one_more mark old item so_far.0 (subst (λ b. Respells new mark b old item) so_far.1 r)))),
      t ∙ sym (text_respelled new before mark old item r) ∙ sym (last_more [] items item) ∙ ap (last_text []) (sym e),
    )

-- all of them
pub whole : (new : List ℕ) (marks : List Bool) (olds items : List Item) (place : ℕ) → length olds ≤ place → length marks ≡ length olds
    → AllRespell new [] (take place marks) (take place olds) items → AllRespell new [] marks olds items
whole new marks olds items place h same done =
    let in_marks : length marks ≤ place = omega (arith, h, same) in
    subst (λ ms. AllRespell new [] ms olds items) (take_all place marks in_marks)
    (subst (λ os. AllRespell new [] (take place marks) os items) (take_all place olds h) done)
