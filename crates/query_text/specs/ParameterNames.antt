-- The names of a query's parameters.
use Rattle.std.specs.Prelude.{codes, bytes_eq, Option, Some, None, if◌then◌else◌}
use Rattle.query_text.specs.declared.filter.Test.TheVariants as test
use Rattle.query_text.specs.declared.parameter.Parameter.{Parameter}
use Rattle.query_text.specs.declared.parameter.Parameter.TheVariants.{Url, Key, MatchType, From, To, Filter, Condition}
use Rattle.query_text.specs.declared.parameter.Parameter.TheVariants.{Limit, ResumeKey, ShowResumeKey, Fl, Output}
use Rattle.query_text.specs.declared.parameter.Parameter.TheVariants.{Collapse}
use Rattle.query_text.specs.Readings.{Text}

abbrev pub parameter_named : Text → Option Parameter
parameter_named name = if bytes_eq name (codes "url") then Some Url
    else (if bytes_eq name (codes "key") then Some Key
    else (if bytes_eq name (codes "matchType") then Some MatchType
    else (if bytes_eq name (codes "from") then Some From
    else (if bytes_eq name (codes "to") then Some To
    else (if bytes_eq name (codes "filter") then Some Filter
    else (if bytes_eq name (codes "is") then Some (Condition test.Is)
    else (if bytes_eq name (codes "isnot") then Some (Condition test.IsNot)
    else (if bytes_eq name (codes "has") then Some (Condition test.Has)
    else (if bytes_eq name (codes "hasnot") then Some (Condition test.HasNot)
    else (if bytes_eq name (codes "limit") then Some Limit
    else (if bytes_eq name (codes "resumeKey") then Some ResumeKey
    else (if bytes_eq name (codes "showResumeKey") then Some ShowResumeKey
    else (if bytes_eq name (codes "fl") then Some Fl
    else (if bytes_eq name (codes "output") then Some Output
    else (if bytes_eq name (codes "collapse") then Some Collapse else None)))))))))))))))
