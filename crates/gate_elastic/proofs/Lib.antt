mod Fitting
mod Passes
