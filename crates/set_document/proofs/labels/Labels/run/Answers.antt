use Rattle.std.proofs.Common.{◌≡◌, ◌+◌, ◌≤◌, arith, inl, inr, length, rules, ◌∙◌, ap}
use Rattle.std.specs.Prelude.{min}
use Rattle.std.specs.List.{slice_range}
use Rattle.set_document.proofs.LabelLemmas.{run_is, run_within}
use Rattle.set_document.proofs.labels.Labels.run.Goals as goal

pub returns-in-Some : goal.returns-in-Some
returns-in-Some c = λ names labels.
    let starts = c.args.self.now.starts.items in
    let size : c.len.result ≡ length starts = search rules in
    let clip : c.min-behind.result ≡ min (min (c.args.first + c.args.count) 18446744073709551615) (length starts) =
    c.min-behind.ensures ∙ (ap (λ n. min n c.len.result) c.saturating_add.ensures ∙ ap (λ n. min (min (c.args.first + c.args.count) 18446744073709551615) n) size) in
    let fits : length starts ≤ 18446744073709551615 = omega arith in
    let part = ap (λ l. slice_range l c.start.result c.start-2.result) c.deref.ensures.value in
    c.in-Some.ensures.lookup.0.2 ∙ (part ∙ run_is names c.args.self.now.bytes.items starts c.args.first c.args.count c.min-behind.result 18446744073709551615 c.start.result c.start-2.result labels clip fits
    (c.start.ensures names labels) (c.start-2.ensures names labels))

pub returns-in-None : goal.returns-in-None
returns-in-None c = λ names labels.
    let starts = c.args.self.now.starts.items in
    let size : c.len.result ≡ length starts = search rules in
    let clip : c.min-behind.result ≡ min (min (c.args.first + c.args.count) 18446744073709551615) (length starts) =
    c.min-behind.ensures ∙ (ap (λ n. min n c.len.result) c.saturating_add.ensures ∙ ap (λ n. min (min (c.args.first + c.args.count) 18446744073709551615) n) size) in
    let fits : length starts ≤ 18446744073709551615 = omega arith in
    let within = run_within names c.args.self.now.bytes.items starts c.args.first c.args.count c.min-behind.result 18446744073709551615 c.start.result c.start-2.result labels clip fits
    (c.start.ensures names labels) (c.start-2.ensures names labels) in
    let all = ap length c.deref.ensures.value in
    absurd (elim c.in-None.ensures.lookup.0 [ inl h ↦ omega arith | inr h ↦ omega arith ])
