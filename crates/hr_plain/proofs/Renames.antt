-- What a renaming writes is the text of its target.
use Rattle.std.proofs.Common.{◌≡◌, ℕ, ◌<◌, ◌≤◌, true, false, List, [], length, sym, ap, subst}
use Rattle.hr_base.specs.Limits.{module_limit}
use Rattle.hr_base.specs.declared.place.Pos.{Pos}
use Rattle.hr_base.specs.declared.lexeme.Item.{Item}
use Rattle.hr_base.specs.declared.lexeme.Items.{Items}
use Rattle.hr_rules.specs.Lexing.{joined}
use Rattle.hr_rules.specs.Lexemes.{LexesText}
use Rattle.hr_lexer.specs.Words.{IsVarId}
use Rattle.hr_plain_tree.specs.declared.tree.Module.{Module}
use Rattle.hr_plain_tree.specs.Yields.{items_of, module_items}
use Rattle.hr_plain.specs.declared.binding.Owner.{Owner}
use Rattle.hr_plain.specs.Binders.{binders_of}
use Rattle.hr_plain.specs.Form.{IsForm, IsPlain, is_ascii_text}
use Rattle.hr_plain.specs.Target.{AllRespell}
use Rattle.hr_plain.specs.declared.renaming.Why.{Why}
use Rattle.hr_plain.specs.Renaming.{IsFound, IsNameAt, IsRenamed, IsWhy, Respelled, is_spelled, owner_at}
use Rattle.hr_plain.proofs.TargetTree.{each_marked, equations_taken}
use Rattle.hr_plain.proofs.SameBinders.{binders_stay}
use Rattle.hr_plain.proofs.SameForm.{form_stays}
use Rattle.hr_plain.proofs.Instances.{reads_as_target}

-- a tree of the target's items
pub record Aimed (tree : Module) (new : List ℕ) (items : Items) : Type 0 where
  pub target : Module
  pub yields : items_of target ≡ items
  pub form : is_ascii_text new ≡ true → IsForm target
  pub binds : binders_of target ≡ binders_of tree

pub aimed : (tree : Module) → IsForm tree → (lexeme : ℕ) (old new : List ℕ) (items : Items) → is_spelled new (module_items tree) ≡ false
    → Respelled tree lexeme old new items → Aimed tree new items
aimed tree form lexeme old new items fresh r =
    let owner : Owner = owner_at tree lexeme old in
    let t = equations_taken new old owner 0 tree.equations items.list (each_marked r.lexemes) in
    let target : Module = record { equations = t.equations; tail = items.tail } in
    record {
      target = target;
      yields = ap (λ (l : List Item). record { list = l; tail = items.tail }) t.yields;
      form = λ ascii.
          form_stays new old owner _ tree target form fresh ascii t.turns
          (subst (AllRespell new [] _ (module_items tree)) (sym t.yields) r.lexemes) r.tail_stays;
      binds = binders_stay new old owner tree.equations t.equations t.turns fresh;
    }

pub renamed : (bytes : List ℕ) (tree : Module) → IsPlain bytes tree → (module_name : List ℕ) (pos : Pos) (lexeme : ℕ) (old new text : List ℕ) (items : Items)
    → IsFound tree module_name pos lexeme old → IsVarId new → is_spelled new (module_items tree) ≡ false
    → Respelled tree lexeme old new items → text ≡ joined items.list items.tail → length text ≤ module_limit → IsRenamed tree module_name pos new text
renamed bytes tree plain module_name pos lexeme old new text items found varid fresh r is within =
    let item : Item = found.0 in
    let name : IsNameAt tree module_name pos lexeme item = found.1 in
    let same : item.lexeme.text ≡ old = found.2 in
    let s : Respelled tree lexeme item.lexeme.text new items = subst (λ t. Respelled tree lexeme t new items) (sym same) r in
    let a = aimed tree plain.form lexeme item.lexeme.text new items fresh s in
    let reads : LexesText text items = subst (λ t. LexesText t items) (sym is) (reads_as_target bytes tree plain (owner_at tree lexeme item.lexeme.text) item.lexeme.text new varid items s) in
    record {
      lexeme = lexeme;
      item = item;
      may = record { name = name; varid = varid; fresh = fresh };
      target = a.target;
      is_target = record {
        respelled = subst (Respelled tree lexeme item.lexeme.text new) (sym a.yields) s;
        reads = subst (LexesText text) (sym a.yields) reads;
        form = a.form;
        binds = a.binds;
      };
      within = within;
    }

pub over_limit : (tree : Module) (module_name : List ℕ) (pos : Pos) (lexeme : ℕ) (old new text : List ℕ) (items : Items)
    → IsFound tree module_name pos lexeme old → IsVarId new → is_spelled new (module_items tree) ≡ false
    → Respelled tree lexeme old new items → text ≡ joined items.list items.tail → module_limit < length text → IsWhy tree module_name pos new Why.OverLimit
over_limit tree module_name pos lexeme old new text items found varid fresh r is long = (
  lexeme,
  found.0,
  items,
  record { name = found.1; varid = varid; fresh = fresh },
  subst (λ t. Respelled tree lexeme t new items) (sym found.2) r,
  subst (λ t. module_limit < length t) is long,
)
