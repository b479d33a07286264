use Rattle.std.proofs.Common.{◌∙◌, ap, sym, ◌++◌}
use Rattle.hr_type.specs.Spelling.{bytes_of, written}
use Rattle.hr_type.proofs.ReadsBack.{reads_back}
use Rattle.hr_type.proofs.print.print_in.Goals as goal

pub returns : goal.returns
returns c =
    let scope = c.args.scope.now in
    let ty = c.args.ty.now in
    let named = sym c.in_ok-named.ensures ∙ c.if-not-named.false in
    record {
      named = named;
      text = c.in_ok-write_type.ensures ∙ ap (λ xs. xs ++ bytes_of (written scope ty).pieces) c.new-text.ensures.items;
      reads = reads_back scope ty named c.requires;
    }
