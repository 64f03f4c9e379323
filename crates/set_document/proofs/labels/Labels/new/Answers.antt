use Rattle.std.proofs.Common.{◌≡◌, ◌++◌, ◌∷◌, [], sym, ◌∙◌, ap, length, rules}
use Rattle.set_document.proofs.LabelLemmas.{name_more, names_all}
use Rattle.set_document.proofs.labels.Labels.new.Goals as goal

pub loop-name-preserved : goal.loop-name-preserved
loop-name-preserved c =
    let starts = c.loop-name.starts.items in
    let size : c.len-in-loop-name.result ≡ length c.loop-name.bytes.items = search rules in
    name_more c.args.names.now.pairs c.next.new.self (c.in-Some.name.now, c.in-Some.field-0-1.now) c.loop-name.bytes.items c.extend_from_slice.new.self.items
    c.extend_from_slice-in-loop-name.new.self.items starts c.push.new.self.items c.loop-name.invariant.1 (sym c.loop-name.invariant.0 ∙ c.in-Some.ensures.steps)
    (c.in_ok-push.ensures.items ∙ ap (λ n. starts ++ n ∷ []) size) c.in_ok-extend_from_slice.ensures.items
    (c.in_ok-extend_from_slice-2.ensures.items ∙ ap (λ l. c.extend_from_slice.new.self.items ++ l) c.as_bytes.ensures)

pub returns : goal.returns
returns c =
    let starts = c.loop-name.starts.items in
    let size : c.len-2.result ≡ length c.loop-name.bytes.items = search rules in
    names_all c.args.names.now.pairs c.loop-name.bytes.items starts c.push-2.new.self.items c.loop-name.invariant.1
    (sym c.loop-name.invariant.0 ∙ c.in-None.ensures.steps.0) (c.in_ok-push-2.ensures.items ∙ ap (λ n. starts ++ n ∷ []) size)
