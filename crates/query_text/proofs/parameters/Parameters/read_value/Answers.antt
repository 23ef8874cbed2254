use Rattle.std.proofs.Common.{Ok, ◌∙◌, refl}
use Rattle.std.specs.Prelude.{string_bytes}
use Rattle.query_text.specs.Collapses.{collapse_of}
use Rattle.query_text.specs.Filters.{filter_of, literal_of}
use Rattle.query_text.specs.Outputs.{flag_of, output_of}
use Rattle.query_text.specs.ParameterViews.{parameter_values}
use Rattle.query_text.specs.Targets.{match_kind_of}
use Rattle.query_text.specs.Values.{limit_of, listed_fields, resume_of, stamp_start_of}
use Rattle.query_text.specs.Parts.{decoded}
use Rattle.query_text.proofs.Stored.{filtered, owned_text, stored, stored_view}
use Rattle.query_text.proofs.parameters.Parameters.read_value.Goals as goal

pub returns-in-MatchType : goal.returns-in-MatchType
returns-in-MatchType c = stored match_kind_of (λ v x. record v { kind = x }) (parameter_values c.args.self.now)
    c.args.text.now _ _ _ _ _ _ _ _ c.in-MatchType.is refl c.as_str-value.ensures.value c.in_ok-decoded.ensures
    c.read_kind.ensures c.store-in-MatchType.ensures

pub returns-in-From : goal.returns-in-From
returns-in-From c = stored stamp_start_of (λ v x. record v { from = x }) (parameter_values c.args.self.now)
    c.args.text.now _ _ _ _ _ _ _ _ c.in-From.is refl c.as_str-value.ensures.value c.in_ok-decoded.ensures
    c.read.ensures c.store-in-From.ensures

pub returns-in-To : goal.returns-in-To
returns-in-To c = stored stamp_start_of (λ v x. record v { to = x }) (parameter_values c.args.self.now) c.args.text.now
    _ _ _ _ _ _ _ _ c.in-To.is refl c.as_str-value.ensures.value c.in_ok-decoded.ensures c.read-in-To.ensures
    c.store-in-To.ensures

pub returns-in-Limit : goal.returns-in-Limit
returns-in-Limit c = stored limit_of (λ v x. record v { limit = x }) (parameter_values c.args.self.now) c.args.text.now
    _ _ _ _ _ _ _ _ c.in-Limit.is refl c.as_str-value.ensures.value c.in_ok-decoded.ensures c.read-in-Limit.ensures
    c.store-in-Limit.ensures

pub returns-in-ShowResumeKey : goal.returns-in-ShowResumeKey
returns-in-ShowResumeKey c = stored flag_of (λ v x. record v { show_resume_key = x })
    (parameter_values c.args.self.now) c.args.text.now _ _ _ _ _ _ _ _ c.in-ShowResumeKey.is refl
    c.as_str-value.ensures.value c.in_ok-decoded.ensures c.read_flag.ensures c.store-in-ShowResumeKey.ensures

pub returns-in-Output : goal.returns-in-Output
returns-in-Output c = stored output_of (λ v x. record v { output = x }) (parameter_values c.args.self.now)
    c.args.text.now _ _ _ _ _ _ _ _ c.in-Output.is refl c.as_str-value.ensures.value c.in_ok-decoded.ensures
    c.read_output.ensures c.store-in-Output.ensures

pub returns-in-Collapse : goal.returns-in-Collapse
returns-in-Collapse c = stored collapse_of (λ v x. record v { collapse = x }) (parameter_values c.args.self.now)
    c.args.text.now _ _ _ _ _ _ _ _ c.in-Collapse.is refl c.as_str-value.ensures.value c.in_ok-decoded.ensures
    c.read_collapse.ensures c.store-in-Collapse.ensures

pub returns-in-ResumeKey : goal.returns-in-ResumeKey
returns-in-ResumeKey c = stored resume_of (λ v x. record v { resume = x }) (parameter_values c.args.self.now)
    c.args.text.now _ _ _ _ _ _ _ _ c.in-ResumeKey.is refl refl refl c.read_resume_key.ensures
    c.store-in-ResumeKey.ensures

-- ---- those that are seen by a view

pub returns-in-Url : goal.returns-in-Url
returns-in-Url c = rw c.in-Url.is (stored_view string_bytes (Ok (decoded c.args.text.now))
    (λ x. record (parameter_values c.args.self.now) { url = x }) c.owned.result _ _
    (owned_text string_bytes _ _ _ c.owned.ensures c.in_ok-decoded.ensures) c.store.ensures)

pub returns-in-Key : goal.returns-in-Key
returns-in-Key c = rw c.in-Key.is (stored_view string_bytes (Ok (decoded c.args.text.now))
    (λ x. record (parameter_values c.args.self.now) { key = x }) c.owned-in-Key.result _ _
    (owned_text string_bytes _ _ _ c.owned-in-Key.ensures c.in_ok-decoded.ensures) c.store-in-Key.ensures)

pub returns-in-Fl : goal.returns-in-Fl
returns-in-Fl c = rw c.in-Fl.is (stored_view (λ fields. fields.items) (listed_fields (decoded c.args.text.now))
    (λ x. record (parameter_values c.args.self.now) { fields = x }) c.read_fields.result _ _
    (rw (c.as_str-value.ensures.value ∙ c.in_ok-decoded.ensures) at c.read_fields.ensures) c.store-in-Fl.ensures)

-- ---- filters

pub returns-in-Filter : goal.returns-in-Filter
returns-in-Filter c = rw c.in-Filter.is (filtered (literal_of (decoded c.args.text.now)) c.read_literal.result
    (parameter_values c.args.self.now) c.add_filter.new.self _
    (rw (c.as_str-value.ensures.value ∙ c.in_ok-decoded.ensures) at c.read_literal.ensures) c.add_filter.ensures)

pub returns-in-Condition : goal.returns-in-Condition
returns-in-Condition c = rw c.in-Condition.is (filtered (filter_of c.in-Condition.test (decoded c.args.text.now))
    c.read-in-Condition.result (parameter_values c.args.self.now) c.add_filter-in-Condition.new.self _
    (rw (c.as_str-value.ensures.value ∙ c.in_ok-decoded.ensures) at c.read-in-Condition.ensures)
    c.add_filter-in-Condition.ensures)
