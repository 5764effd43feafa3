pub mod NumberRuns
